-- One more than the last index of some elements.
use Rattle.std.proofs.Common.{◌≡◌, ℕ, zero, suc, ◌+◌, ◌-◌, ◌≤◌, List, [], ◌∷◌, length, Some, slice_get, refl, arith}
use Rattle.std.specs.Prelude.{IsTrue}
use Rattle.std.proofs.lemmas.Bool.Decides.{nat_tests}
use Rattle.eb_bytes.specs.Text.{Text}
use Rattle.shell_vars.specs.Elements.{index_after, have_indices}

at_last : (es : List (ℕ × Text)) (n : ℕ) (x : ℕ × Text) → length es ≡ n + 1 → slice_get es n ≡ Some x → x.0 + 1 ≡ index_after es
at_last [] n x l h = absurd (omega arith)
at_last (e ∷ []) zero x l h = cc
at_last (e ∷ []) (suc n) x l h = absurd (omega arith)
at_last (e ∷ f ∷ es) zero x l h = absurd (omega arith)
at_last (e ∷ f ∷ es) (suc n) x l h = at_last (f ∷ es) n x (omega arith) h

pub index_after-last : (es : List (ℕ × Text)) (x : ℕ × Text) → slice_get es (length es - 1) ≡ Some x → x.0 + 1 ≡ index_after es
index_after-last [] x h = cc
index_after-last (e ∷ es) x h = at_last (e ∷ es) (length (e ∷ es) - 1) x (omega arith) h

pub index_after-le : (es : List (ℕ × Text)) → IsTrue (have_indices es) → index_after es ≤ 9223372036854775808
index_after-le [] h = omega arith
index_after-le (e ∷ []) h = grind (arith, nat_tests)
index_after-le (e ∷ f ∷ es) h = index_after-le (f ∷ es) (grind (arith, nat_tests))

pub index_after-none : (es : List (ℕ × Text)) → length es ≡ 0 → 0 ≡ index_after es
index_after-none [] h = refl
index_after-none (e ∷ es) h = absurd (omega arith)
