-- No key before this one has the text as its name.
use Rattle.std.proofs.Common.{◌≡◌, ℕ, ◌<◌, get_or}
use Rattle.eapi_tables.specs.Key.{key_name}
use Rattle.eapi_tables.specs.declared.key.Key.TheVariants.{Slot}
use Rattle.eapi_tables.proofs.key.Key.read.Given as goal

abbrev pub invariant-loop-key : goal.invariant-loop-key
invariant-loop-key l = (k : ℕ) → k < l.key-index → key_name (get_or l.key-items k Slot) ≡ l.text → ⊥
