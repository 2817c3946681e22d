-- The counts of faults.
use Rattle.std.specs.Prelude.{◌≡◌, ℕ, ◌+◌, ◌-◌, ◌^◌, ◌≤◌, min, max, Bool, true, false}

-- the count after one more fault; at its type's end it stays
abbrev pub raised : ℕ → ℕ
raised count = max count (min (count + 1) (2 ^ 64 - 1))

-- the count after a call: one more exactly where the call failed
abbrev pub counted : (failed : Bool) → ℕ → ℕ
counted false count = count
counted true count = raised count

-- a count is greater than before, or stands at its type's end
abbrev pub Rose : ℕ → ℕ → Type 0
Rose before now = raised before ≤ now

-- what a call does to the count of faults, and that where no failure may come, none comes and none may come afterwards
pub record HasCause (failed : Bool) (before after : ℕ) (may then : Bool) : Type 0 where
  pub faults : after ≡ counted failed before
  pub quiet : may ≡ false → (failed ≡ false) × (then ≡ false)
