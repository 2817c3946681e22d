use Rattle.std.proofs.Common.{sym, ap, ◌∙◌, nat_cmp}
use Rattle.std.specs.FinMap as map
use Rattle.std.specs.FinMap.{get-empty}
use Rattle.std.specs.Option.{option_copied}
use Rattle.shell_vars.specs.Value.{elements_of}
use Rattle.shell_vars.proofs.value.Value.element.Goals as goal

pub returns-in-None : goal.returns-in-None
returns-in-None c = sym (ap (λ v. map.get (elements_of (option_copied v)) c.args.at) c.in-None.is ∙ get-empty nat_cmp c.args.at)
