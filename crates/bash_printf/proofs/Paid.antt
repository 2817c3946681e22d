-- What a text costs, and what is printed then.
use Rattle.std.proofs.Common.{◌≡◌, ◌⊎◌, inl, inr, ℕ, ◌+◌, ◌-◌, ◌^◌, ◌<◌, ◌≤◌, length, sym, ap, subst, ◌∙◌, arith}
use Rattle.std.proofs.lemmas.Nat.{le-div}
use Rattle.eb_bytes.specs.Text.{Text}
use Rattle.shell_state.specs.Outcome.{Ended, Faulted, left_of}
use Rattle.shell_state.specs.Spending.{spend, text_cost}
use Rattle.shell_state.specs.State.{State}
use Rattle.shell_state.specs.declared.fault.Fault.{Fault}
use Rattle.shell_state.proofs.Spent.{at_most, enough, short}

-- what a text of 2^64 bytes costs, or of one byte less
pub costs_most : (t : Text) → 2 ^ 64 ≤ length t + 1 → 288230376151711744 ≤ text_cost t
costs_most t le = le-div 288230376151711744 (0 + (length t + 1)) 64 (omega arith) (omega (arith, le))

-- where so many steps are not left, more are not either
pub more_is_spent : (m n left : ℕ) (why : Fault) (at : State) → m ≤ n
    → spend m at ≡ Faulted why left at.host.asked → spend n at ≡ Faulted why left at.host.asked
more_is_spent m n left why at le e = by (at_most m at.left)
  where
    by : (m ≤ at.left) ⊎ (at.left < m) → spend n at ≡ Faulted why left at.host.asked
    by (inl more) = absurd (let f : Ended tt (record at { left = at.left - m }) ≡ Faulted why left at.host.asked = sym (enough m at more) ∙ e in cc)
    by (inr less) = short n at (omega (arith, less, le)) ∙ sym (short m at less) ∙ e

-- where so many are left after some, no fewer are left after more
pub more_is_kept : (m n left : ℕ) (at : State) → m ≤ n
    → spend m at ≡ Ended tt (record at { left = left }) → left_of (spend n at) ≤ left
more_is_kept m n left at le e = by (at_most m at.left) (at_most n at.left)
  where
    by : (m ≤ at.left) ⊎ (at.left < m) → (n ≤ at.left) ⊎ (at.left < n) → left_of (spend n at) ≤ left
    by (inl more) (inl most) =
        let same : at.left - m ≡ left = ap left_of (sym (enough m at more) ∙ e) in
        subst (λ o. left_of o ≤ left) (sym (enough n at most)) (omega arith)
    by (inl more) (inr less) = subst (λ o. left_of o ≤ left) (sym (short n at less)) (omega arith)
    by (inr less) x = absurd (let f : Faulted _ 0 at.host.asked ≡ Ended tt (record at { left = left }) = sym (short m at less) ∙ e in cc)
