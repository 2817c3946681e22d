-- The parts of a text with escapes, one after another.
use Rattle.std.proofs.Common.{◌≡◌, ℕ, suc, ◌+◌, ◌-◌, ◌<◌, List, [], ◌∷◌, ◌++◌, sym, ap, ◌∙◌, append_assoc, append-nil, arith}
use Rattle.eb_bytes.specs.Text.{Text}
use Rattle.printf_format.specs.declared.escapes.Ending.{Ending}
use Rattle.printf_format.specs.declared.escapes.Meaning.{Meaning}
use Rattle.printf_format.specs.declared.escapes.Meaning.TheVariants.{Byte}
use Rattle.printf_format.specs.Escapes.{Spelled, part_of, spelled_in, with_part}

-- the turns that are left
turns : (n i : ℕ) → i < n → suc (n - (i + 1)) ≡ n - i
turns n i h = omega arith

module _ (n i : ℕ) (rest after : Text) (m : Meaning) (below : i < n) (is : m ≡ (part_of rest).0) (further : after ≡ (part_of rest).1) where
  pub next_part : with_part m (spelled_in (n - (i + 1)) after) ≡ spelled_in (n - i) rest
  next_part =
      ap (λ (k : Meaning). with_part k (spelled_in (n - (i + 1)) after)) is
      ∙ ap (λ (t : Text). with_part (part_of rest).0 (spelled_in (n - (i + 1)) t)) further
      ∙ ap (λ (k : ℕ). spelled_in k rest) (turns n i below)

-- a byte more
pub byte_more : (value new : Text) (b : ℕ) (s t : Spelled) (w : Text) → new ≡ value ++ b ∷ [] → with_part (Byte b) s ≡ t
    → value ++ t.text ≡ w → new ++ s.text ≡ w
byte_more value new b s t w e f g =
    ap (λ (x : Text). x ++ s.text) e ∙ append_assoc value (b ∷ []) s.text ∙ ap (λ (q : Spelled). value ++ q.text) f ∙ g

-- what ends there
pub ends_there : (value u : Text) (k : Ending) (t : Spelled) (w : Text) → u ≡ value
    → record { text = []; ending = k } ≡ t → value ++ t.text ≡ w → u ≡ w
ends_there value u k t w e f g =
    e ∙ sym (append-nil value) ∙ ap (λ (q : Spelled). value ++ q.text) f ∙ g
