-- Texts with fillings that are not made yet.
use Rattle.std.proofs.Common.{◌≡◌, ℕ, ◌+◌, List, [], ◌∷◌, ◌++◌, length, replicate, refl, sym, ap, ◌∙◌, append_assoc, append-nil, length-append, arith}
use Rattle.std.proofs.Math.ListN.{length-replicate}
use Rattle.eb_bytes.specs.Text.{Text}
use Rattle.printf_format.specs.declared.drawn.Run.{Run}
use Rattle.printf_format.specs.Texts.{run_text, whole_text}

-- a text more at the end
pub tail_more : (rs : List Run) (tail t : Text) → whole_text rs (tail ++ t) ≡ whole_text rs tail ++ t
tail_more [] tail t = refl
tail_more (r ∷ rs) tail t = ap (λ (u : Text). run_text r ++ u) (tail_more rs tail t) ∙ sym (append_assoc (run_text r) (whole_text rs tail) t)

-- a filling more at the end
pub filled : (rs : List Run) (r : Run) → whole_text (rs ++ r ∷ []) [] ≡ whole_text rs r.text ++ replicate r.count r.byte
filled [] r = append-nil (run_text r)
filled (s ∷ rs) r = ap (λ (u : Text). run_text s ++ u) (filled rs r) ∙ sym (append_assoc (run_text s) (whole_text rs r.text) (replicate r.count r.byte))

-- the bytes of a run, and of those after it
pub counts_more : (r : Run) (rs : List Run) (tail : Text) → length (whole_text (r ∷ rs) tail) ≡ length r.text + r.count + length (whole_text rs tail)
counts_more r rs tail =
    length-append (run_text r) (whole_text rs tail)
    ∙ ap (λ (n : ℕ). n + length (whole_text rs tail)) (length-append r.text (replicate r.count r.byte) ∙ ap (λ (n : ℕ). length r.text + n) (length-replicate r.count r.byte))

-- the bytes of the text at the end
pub counts_tail : (rs : List Run) (tail : Text) → length tail + length (whole_text rs []) ≡ length (whole_text rs tail)
counts_tail [] tail = omega arith
counts_tail (r ∷ rs) tail =
    let same : length tail + length (whole_text rs []) ≡ length (whole_text rs tail) = counts_tail rs tail in
    omega (arith, counts_more r rs [], counts_more r rs tail)
