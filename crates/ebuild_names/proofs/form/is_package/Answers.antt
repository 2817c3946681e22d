use Rattle.std.proofs.Common.{sym, ◌∙◌}
use Rattle.ebuild_names.proofs.Ends.{package_name, package_text}
use Rattle.ebuild_names.proofs.form.is_package.Goals as goal

pub returns : goal.returns
returns c = ((λ yes. package_name c.args.text.now (sym c.reads_package.ensures ∙ yes)), (λ is. c.reads_package.ensures ∙ package_text c.args.text.now is))
