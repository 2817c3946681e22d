-- The numbers of a sequence, one after another.
use Rattle.std.proofs.Common.{◌≡◌, ℕ, ◌-◌, ◌/◌, ◌<◌, ◌≤◌, Bool, true, false, List, [], ◌∷◌, ◌++◌, map, refl, ap, ◌∙◌, add-one, append_assoc, arith}
use Rattle.std.specs.Int.{w64}
use Rattle.std.specs.Prelude.{ℤ, pos, negsuc, ◌+ℤ◌, ◌-ℤ◌, unsigned_abs, FitsSigned}
use Rattle.std.proofs.lemmas.Int.{ints}
use Rattle.std.proofs.Math.Nat.{div-eq-sub-div, div-eq_of_lt}
use Rattle.std.proofs.lemmas.List.{append-nil}
use Rattle.eb_bytes.specs.Text.{Text}
use Rattle.bash_braces.specs.Sequences.{further, is_below_zero, move}

-- the texts of the numbers that are still to come
abbrev pub coming : (ℤ → Text) → ℕ → ℕ → ℤ → ℤ → List Text
coming of left step z by = map of (further (left / step) z by)

pub coming_none : (all : List Text) (of : ℤ → Text) (left step : ℕ) (z by : ℤ) → left < step → all ++ coming of left step z by ≡ all
coming_none all of left step z by few = rw (div-eq_of_lt few) (append-nil all)

pub coming_next : (all : List Text) (of : ℤ → Text) (left step : ℕ) (z by : ℤ) → 0 < step → step ≤ left → (all ++ of (z +ℤ by) ∷ []) ++ coming of (left - step) step (z +ℤ by) by ≡ all ++ coming of left step z by
coming_next all of left step z by moves enough = rw (div-eq-sub-div moves enough, add-one) (append_assoc all (of (z +ℤ by) ∷ []) (coming of (left - step) step (z +ℤ by) by))

-- a number between two that fit fits
pub between_fits : (z to : ℤ) (falling : Bool) (left far : ℕ) → FitsSigned w64 z → FitsSigned w64 to → far ≤ left → z +ℤ move falling left ≡ to → FitsSigned w64 (z +ℤ move falling far)
between_fits z to true left far from_fits to_fits within ends = omega (arith, ints)
between_fits z to false left far from_fits to_fits within ends = omega (arith, ints)

-- what is left after a step
pub nearer : (z to : ℤ) (falling : Bool) (left far : ℕ) → far ≤ left → z +ℤ move falling left ≡ to → (z +ℤ move falling far) +ℤ move falling (left - far) ≡ to
nearer z to true left far within ends = omega (arith, ints)
nearer z to false left far within ends = omega (arith, ints)

-- how far it is to the last number
pub whole_way : (from to : ℤ) → from +ℤ move (is_below_zero (to -ℤ from)) (unsigned_abs (to -ℤ from)) ≡ to
whole_way from to = by_sign (to -ℤ from) refl
  where
    by_sign : (d : ℤ) → d ≡ to -ℤ from → from +ℤ move (is_below_zero d) (unsigned_abs d) ≡ to
    by_sign (pos n) e = omega (arith, ints)
    by_sign (negsuc n) e = omega (arith, ints)

-- a step of the loop
pub coming_step : (all more : List Text) (of : ℤ → Text) (left far : ℕ) (z moved : ℤ) (f g : Bool) (t : Text) → 0 < far → far ≤ left → more ≡ all ++ t ∷ [] → t ≡ of moved → moved ≡ z +ℤ move f far → f ≡ g → more ++ coming of (left - far) far moved (move g far) ≡ all ++ coming of left far z (move g far)
coming_step all more of left far z moved f g t moves enough added written at same =
    let here : moved ≡ z +ℤ move g far = at ∙ ap (λ h. z +ℤ move h far) same in
    let whole : more ≡ all ++ of (z +ℤ move g far) ∷ [] = added ∙ ap (λ u. all ++ u ∷ []) (written ∙ ap of here) in
    ap (λ m. more ++ coming of (left - far) far m (move g far)) here ∙ ap (λ ts. ts ++ coming of (left - far) far (z +ℤ move g far) (move g far)) whole ∙ coming_next all of left far z (move g far) moves enough

pub nearer_step : (z moved to : ℤ) (f g : Bool) (left far : ℕ) → far ≤ left → moved ≡ z +ℤ move f far → f ≡ g → z +ℤ move g left ≡ to → moved +ℤ move g (left - far) ≡ to
nearer_step z moved to f g left far within at same ends = ap (λ m. m +ℤ move g (left - far)) (at ∙ ap (λ h. z +ℤ move h far) same) ∙ nearer z to g left far within ends
