-- What tests and choices say by how they came out.
use Rattle.std.proofs.Common.{◌≡◌, ℕ, Bool, true, false, ◌&&◌, cond, Option, Some, None, refl}

pub both_true : (v w : Bool) → (v && w) ≡ true → (v ≡ true) × (w ≡ true)
both_true true w h = (refl, h)
both_true false w h = absurd (cc)

-- a choice between a number and what is none
pub none_chosen : (v : Bool) (o : Option ℕ) (n : ℕ) → cond v o (Some n) ≡ None → (v ≡ true) × (o ≡ None)
none_chosen true o n h = (refl, h)
none_chosen false o n h = absurd (cc)
