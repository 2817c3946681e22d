use Rattle.std.proofs.Common.{◌≡◌, ◌++◌, drop}
use Rattle.std.specs.Option.{option_copied}
use Rattle.expand_parts.proofs.Values.{kept, listed}
use Rattle.expand_parts.proofs.references.star_of.Given as goal

-- what stands for something so far, and what is left, are the whole
abbrev pub invariant-loop-part : goal.invariant-loop-part
invariant-loop-part l = listed (option_copied l.only) ++ kept (drop l.part-index l.parts) ≡ kept l.parts
