use Rattle.std.proofs.Common.{sym, ◌∙◌}
use Rattle.version_funcs.proofs.Reading.{passes_version, version_passes}
use Rattle.version_funcs.proofs.read.read_version.Goals as goal

pub returns : goal.returns
returns c =
    ((λ yes. passes_version c.args.text.now (sym c.reads_version.ensures ∙ yes)), (λ is. c.reads_version.ensures ∙ version_passes c.args.text.now is))
