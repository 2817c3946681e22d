-- What an operator with one operand asks.
use Rattle.std.proofs.Common.{◌≡◌, ℕ, ◌≤◌, Bool, false, ◌==◌, Result, Ok, Err, refl, arith, subst, sym}
use Rattle.eb_bytes.specs.Text.{Text}
use Rattle.eb_grammar.specs.Grammar.{whole_ref}
use Rattle.bash_cond.specs.Operators.{text_test}
use Rattle.bash_cond.specs.Verdict.{Gives, Verdict, told}
use Rattle.shell_state.specs.Outcome.{Tells, left_of}
use Rattle.shell_state.specs.State.{State}
use Rattle.shell_state.specs.declared.stop.Stop.{Stop}
use Rattle.shell_state.specs.declared.stop.Stop.TheVariants as stop
use Rattle.run_meaning.specs.Conditions.{is_set, unary}
use Rattle.run_meaning.specs.Laws.{Always}
use Rattle.run_meaning.proofs.PartsKept.{unary_part}
use Rattle.word_meaning.proofs.Respected.{SideBySide, side_by_side}
use Rattle.shell_vars.specs.Store.{Store}

-- no step is given back
pub never_rises : (letter : ℕ) (t : Text) (at : State) → left_of (unary letter t at) ≤ at.left
never_rises letter t at =
    (unary_part (SideBySide Always (λ xs ys w. tt) at.left at.left) (side_by_side Always (λ xs ys w. tt) at.left at.left) letter t at (omega arith) (omega arith)).later.less

pub set_never_rises : (t : Text) (at : State) (l : ℕ) → at.left ≡ l → left_of (is_set t (whole_ref t) at) ≤ l
set_never_rises t at l e = subst (λ k. left_of (is_set t (whole_ref t) at) ≤ k) e (never_rises 118 t at)

told_at : (v : Verdict) (at : State) (result : Result Bool Stop) → Gives result v → Tells result (told v at) at
told_at v at (Ok b) e = rw e refl
told_at v at (Err (stop.Fault why)) e = rw e refl
told_at v at (Err stop.Failed) e = absurd e
told_at (Ok b) at (Err stop.Memory) e = omega arith
told_at (Err why) at (Err stop.Memory) e = omega arith

-- a text is asked alone: nothing is spent, and the variables stay
pub asks_text : (letter : ℕ) (t : Text) (at : State) (store : Store) (l : ℕ) (result : Result Bool Stop) → letter == 118 ≡ false
    → at.store ≡ store → at.left ≡ l → Gives result (text_test letter t) → Tells result (unary letter t at) (record at { store = store; left = l })
asks_text letter t at store l result n e f g = rw n (rw (sym e) (rw (sym f) (told_at (text_test letter t) at result g)))
