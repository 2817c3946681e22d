-- Where a run of bytes ends.
use Rattle.std.proofs.Common.{◌≡◌, ℕ, ◌+◌, ◌≤◌, Bool, true, false, not, cond, nat_lt, [], ◌∷◌, length, Some, None, refl, ap}
use Rattle.std.proofs.lemmas.Bool.{ltb-false}
use Rattle.std.specs.List.{position, position_or_len, prefix_len}
use Rattle.eb_bytes.specs.Text.{Text}

-- a run that ends at the first byte not outside of a class
pub prefix_len-twice : (p : ℕ → Bool) (t : Text) → prefix_len (λ b. not (not (p b))) t ≡ prefix_len p t
prefix_len-twice p [] = refl
prefix_len-twice p (b ∷ t) = on (p b) refl (prefix_len-twice p t)
  where
    on : (v : Bool) → p b ≡ v → prefix_len (λ b. not (not (p b))) t ≡ prefix_len p t → prefix_len (λ b. not (not (p b))) (b ∷ t) ≡ prefix_len p (b ∷ t)
    on true e rest = rw e (ap (λ n. 1 + n) rest)
    on false e rest = rw e refl

-- where `position` finds no index
pub position_none : (p : ℕ → Bool) (t : Text) → position p t ≡ None → length t ≤ position_or_len p t
position_none p t e = on (position_or_len p t) (length t) (nat_lt (position_or_len p t) (length t)) refl e
  where
    on : (n len : ℕ) (v : Bool) → nat_lt n len ≡ v → cond v (Some n) None ≡ None → len ≤ n
    on n len true test e = absurd (cc)
    on n len false test e = ltb-false n len test
