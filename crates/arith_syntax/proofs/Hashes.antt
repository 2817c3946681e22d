-- A constant is cut at its first `#`.
use Rattle.std.proofs.Common.{◌≡◌, ℕ, ◌+◌, ◌-◌, ◌<◌, ◌≤◌, Bool, true, false, [], ◌∷◌, take, drop, length, Option, Some, None, refl, ap, sym, ◌∙◌, arith, cond, nat_lt}
use Rattle.std.specs.List.{list_any, position, position_or_len}
use Rattle.std.specs.Option.{option_and_then, option_map}
use Rattle.std.proofs.lemmas.Bool.{ltb-true, ltb-false}
use Rattle.std.proofs.lemmas.List.{take_rest}
use Rattle.eb_bytes.specs.Text.{Text}
use Rattle.arith_syntax.specs.Constants.{base_of, digits, is_hash, low, plain, written}

-- where `position` finds one
position_some : (p : ℕ → Bool) (t : Text) (i : ℕ) → position p t ≡ Some i → (i ≡ position_or_len p t) × (position_or_len p t < length t)
position_some p t i e = cond_found (position_or_len p t) (length t) (nat_lt (position_or_len p t) (length t)) refl i e
  where
    cond_found : (n len : ℕ) (v : Bool) → nat_lt n len ≡ v → (i : ℕ) → cond v (Some n) None ≡ Some i → (i ≡ n) × (n < len)
    cond_found n len true test i e = (cc, ltb-true n len test)
    cond_found n len false test i e = absurd (cc)

-- and where it finds none
position_none : (p : ℕ → Bool) (t : Text) → position p t ≡ None → length t ≤ position_or_len p t
position_none p t e = cond_missed (position_or_len p t) (length t) (nat_lt (position_or_len p t) (length t)) refl e
  where
    cond_missed : (n len : ℕ) (v : Bool) → nat_lt n len ≡ v → cond v (Some n) None ≡ None → len ≤ n
    cond_missed n len true test e = absurd (cc)
    cond_missed n len false test e = ltb-false n len test

any_found : (p : ℕ → Bool) (t : Text) → position_or_len p t < length t → list_any p t ≡ true
any_found p [] within = absurd (omega arith)
any_found p (b ∷ t) within = on (p b) refl within (any_found p t)
  where
    on : (v : Bool) → p b ≡ v → position_or_len p (b ∷ t) < length (b ∷ t) → (position_or_len p t < length t → list_any p t ≡ true) → list_any p (b ∷ t) ≡ true
    on true e within rest = rw e refl
    on false e within rest = rw e (let more : 1 + position_or_len p t < length (b ∷ t) = rw e at within in rest (omega arith))

none_found : (p : ℕ → Bool) (t : Text) → length t ≤ position_or_len p t → list_any p t ≡ false
none_found p [] all = refl
none_found p (b ∷ t) all = on (p b) refl all (none_found p t)
  where
    on : (v : Bool) → p b ≡ v → length (b ∷ t) ≤ position_or_len p (b ∷ t) → (length t ≤ position_or_len p t → list_any p t ≡ false) → list_any p (b ∷ t) ≡ false
    on true e all rest = absurd (let none : length (b ∷ t) ≤ 0 = rw e at all in omega arith)
    on false e all rest = rw e (let more : length (b ∷ t) ≤ 1 + position_or_len p t = rw e at all in rest (omega arith))

cut : (w : Text) (i : ℕ) → Some i ≡ position is_hash w → option_and_then (λ base. digits base (drop (i + 1) w)) (base_of (take i w)) ≡ written w
unfolding written
cut w i found =
    let place = position_some is_hash w i (sym found) in
    rw (any_found is_hash w place.1) (rw (place.0) refl)

pub no_base : (w : Text) (i : ℕ) → Some i ≡ position is_hash w → None ≡ base_of (take i w) → None ≡ option_map low (written w)
no_base w i found base = ap (λ (o : Option ℕ). option_map low (option_and_then (λ base. digits base (drop (i + 1) w)) o)) base ∙ ap (option_map low) (cut w i found)

pub in_base : (w : Text) (i base : ℕ) → Some i ≡ position is_hash w → Some base ≡ base_of (take i w)
    → option_map low (digits base (take (length w - (i + 1)) (drop (i + 1) w))) ≡ option_map low (written w)
in_base w i base found is =
    ap (λ (t : Text). option_map low (digits base t)) (take_rest w (i + 1))
    ∙ ap (λ (o : Option ℕ). option_map low (option_and_then (λ base. digits base (drop (i + 1) w)) o)) is
    ∙ ap (option_map low) (cut w i found)

pub no_hash : (w : Text) → None ≡ position is_hash w → plain w ≡ written w
unfolding written
no_hash w found = rw (none_found is_hash w (position_none is_hash w (sym found))) refl
