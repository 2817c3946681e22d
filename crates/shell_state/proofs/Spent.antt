-- Steps that are spent.
use Rattle.std.proofs.Common.{◌≡◌, ◌⊎◌, inl, inr, ℕ, ◌+◌, ◌-◌, ◌<◌, ◌≤◌, true, false, refl, sym, ap, subst, ◌∙◌, arith}
use Rattle.std.proofs.Math.Dec.{leb}
use Rattle.std.proofs.lemmas.Bool.{le-leb, lt-leb}
use Rattle.std.proofs.lemmas.Bool.Decides.{leb_tells}
use Rattle.eb_bytes.specs.Spending.{Spending}
use Rattle.shell_state.specs.State.{State}
use Rattle.shell_state.specs.Outcome.{Ended, Faulted, and_then, ◌>>◌, left_of}
use Rattle.shell_state.specs.Spending.{left, spend}
use Rattle.shell_state.specs.declared.fault.Fault.TheVariants as fault

pub enough : (n : ℕ) (at : State) → n ≤ at.left → spend n at ≡ Ended tt (record at { left = at.left - n })
unfolding spend
enough n at le = rw (le-leb n at.left le) refl

pub short : (n : ℕ) (at : State) → at.left < n → spend n at ≡ Faulted fault.StepsSpent 0 at.host.asked
unfolding spend
short n at lt = rw (lt-leb n at.left lt) refl

-- of two numbers the first is at most the second, or greater
pub at_most : (a b : ℕ) → (a ≤ b) ⊎ (b < a)
at_most a b = from (leb_tells a b)
  where
    from : ((leb a b ≡ true) × (a ≤ b)) ⊎ ((leb a b ≡ false) × (b < a)) → (a ≤ b) ⊎ (b < a)
    from (inl p) = inl p.1
    from (inr p) = inr p.1

adds_after : (m n : ℕ) (at : State) → m ≤ at.left → (n ≤ at.left - m) ⊎ (at.left - m < n)
    → spend n (record at { left = at.left - m }) ≡ spend (m + n) at
adds_after m n at le (inl more) =
    enough n (record at { left = at.left - m }) more
    ∙ ap (λ k. Ended tt (record at { left = k })) (omega (arith, le, more))
    ∙ sym (enough (m + n) at (omega (arith, le, more)))
adds_after m n at le (inr less) =
    short n (record at { left = at.left - m }) less ∙ sym (short (m + n) at (omega (arith, le, less)))

pub adds_up : (m n : ℕ) (at : State) → (spend m >> spend n) at ≡ spend (m + n) at
adds_up m n at = by (at_most m at.left)
  where
    by : (m ≤ at.left) ⊎ (at.left < m) → (spend m >> spend n) at ≡ spend (m + n) at
    by (inl le) = ap (λ o. and_then o (λ _. spend n)) (enough m at le) ∙ adds_after m n at le (at_most n (at.left - m))
    by (inr lt) = ap (λ o. and_then o (λ _. spend n)) (short m at lt) ∙ sym (short (m + n) at (omega (arith, lt)))

pub never_rises : (n : ℕ) (at : State) → left_of (spend n at) ≤ at.left
never_rises n at = by (at_most n at.left)
  where
    by : (n ≤ at.left) ⊎ (at.left < n) → left_of (spend n at) ≤ at.left
    by (inl le) = subst (λ o. left_of o ≤ at.left) (sym (enough n at le)) (omega arith)
    by (inr lt) = subst (λ o. left_of o ≤ at.left) (sym (short n at lt)) (omega arith)

-- ---- the steps of a budget

left_after : (n : ℕ) (old new : Spending) → old.used + n ≤ old.limit → new ≡ record old { used = old.used + n }
    → left old - n ≡ left new
left_after n old new le e = subst (λ b. left old - n ≡ left b) (sym e) (omega (arith, le))

pub was_left : (n : ℕ) (old new : Spending) (at : State)
    → old.used + n ≤ old.limit → new ≡ record old { used = old.used + n }
    → at.left ≡ left old → spend n at ≡ Ended tt (record at { left = left new })
was_left n old new at le e same =
    enough n at (subst (λ k. n ≤ k) (sym same) (omega (arith, le)))
    ∙ ap (λ k. Ended tt (record at { left = k })) (ap (λ k. k - n) same ∙ left_after n old new le e)

none_left : (old new : Spending) → new ≡ record old { used = old.limit } → 0 ≡ left new
none_left old new e = subst (λ b. 0 ≡ left b) (sym e) (omega arith)

pub was_not_left : (n : ℕ) (old new : Spending) (at : State)
    → old.used ≤ old.limit → old.limit < old.used + n → new ≡ record old { used = old.limit }
    → at.left ≡ left old → spend n at ≡ Faulted fault.StepsSpent (left new) at.host.asked
was_not_left n old new at within lt e same =
    short n at (subst (λ k. k < n) (sym same) (omega (arith, within, lt)))
    ∙ ap (λ k. Faulted fault.StepsSpent k at.host.asked) (none_left old new e)
