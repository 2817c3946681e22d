-- A run of bytes ends at the first byte that a search finds, and a text after a text is a text.
use Rattle.std.proofs.Common.{◌≡◌, ℕ, ◌+◌, ◌<◌, Bool, true, false, not, ◌||◌, ◌==◌, Option, Some, None, length, get_or, drop, sym, refl, arith}
use Rattle.std.specs.List.{prefix_len}
use Rattle.std.specs.Option.{unwrap_or}
use Rattle.std.proofs.lemmas.List.{drop-drop}
use Rattle.std.proofs.lemmas.List.Sums.{prefix_len_is}
use Rattle.memchr.specs.Find.{IsFirstByte, is_byte2}
use Rattle.eb_bytes.specs.Text.{Text}
use Rattle.bash_cursor.specs.Ends.{other_than}

pub past : (m n : ℕ) (text : Text) → drop m (drop n text) ≡ drop (n + m) text
past m n text = drop-drop m n text

swapped : (c x : ℕ) → other_than c x ≡ not (is_byte2 c 0 x)
swapped c x = on (x == 0) (x == c)
  where
    on : (a b : Bool) → not (a || b) ≡ not (b || a)
    on true true = refl
    on true false = refl
    on false true = refl
    on false false = refl

passes : (c x : ℕ) → (is_byte2 c 0 x ≡ true → ⊥) → other_than c x ≡ true
passes c x apart = rw (swapped c x) (on (is_byte2 c 0 x) refl)
  where
    on : (v : Bool) → is_byte2 c 0 x ≡ v → not v ≡ true
    on true e = absurd (apart e)
    on false e = refl

stops : (c x : ℕ) → is_byte2 c 0 x ≡ true → other_than c x ≡ false
stops c x e = rw (swapped c x, e) refl

-- the first byte that is c or 0 stands after the longest run of other bytes
pub run_before : (c : ℕ) (text : Text) (found : Option ℕ) → IsFirstByte (is_byte2 c 0) text found → unwrap_or found (length text) ≡ prefix_len (other_than c) text
run_before c text None none =
    sym (prefix_len_is (other_than c) text (length text) 0 (omega arith) (λ k below. passes c (get_or text k 0) (none k (omega arith) below)) (λ past. absurd (omega arith)))
run_before c text (Some n) first =
    let within : n < length text = first.0.high in
    sym (prefix_len_is (other_than c) text n 0 (omega arith) (λ k below. passes c (get_or text k 0) (first.0.before k (omega arith) below)) (λ _. stops c (get_or text n 0) first.1))
