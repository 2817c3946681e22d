use Rattle.std.proofs.Common.{take}
use Rattle.std.specs.Prelude.{All}
use Rattle.md5_cache.specs.Parts.{KeepsRules}
use Rattle.md5_cache.proofs.rules.all_keep_rules.Given as goal

-- the values before this one keep the rules
abbrev pub invariant-loop-value : goal.invariant-loop-value
invariant-loop-value l = All (KeepsRules l.eapi) (take l.value-index l.values)
