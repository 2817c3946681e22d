use Rattle.std.proofs.Common.{◌≡◌, take}
use Rattle.eb_grammar.specs.HereDocuments.{joined}
use Rattle.bash_redirs.proofs.unquoted.Unquoted.of_all.Given as goal

abbrev pub invariant-loop-part : goal.invariant-loop-part
invariant-loop-part l = l.told ≡ joined (take l.part-index l.parts)
