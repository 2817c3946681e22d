-- What a builtin prints, as a part of a run.
use Rattle.std.proofs.Common.{◌≡◌, ℕ, ◌≤◌, Bool, true, false, Result, Ok, Err, refl, sym, ap, subst, ◌∙◌, arith}
use Rattle.eb_bytes.specs.Text.{Text}
use Rattle.shell_state.specs.Outcome.{Outcome, Ended, Faulted, and_then, left_of, pure, Tells}
use Rattle.shell_state.specs.Output.{may_put, prints, puts}
use Rattle.shell_state.specs.Spending.{text_cost, spend}
use Rattle.shell_state.specs.State.{State}
use Rattle.shell_state.specs.declared.fault.Fault.{Fault}
use Rattle.shell_state.specs.declared.io.Io.{Io}
use Rattle.shell_state.specs.declared.stop.Stop.{Stop}
use Rattle.shell_state.specs.declared.stop.Stop.TheVariants as stop
use Rattle.shell_state.proofs.Spent.{never_rises}
use Rattle.printf_format.specs.declared.escapes.Ending.{Ending}
use Rattle.bash_printf.specs.Printing.{judged, told, Judges}

-- to put a text spends nothing
puts_left : (t : Text) (at : State) → left_of (puts at.io.out t at) ≤ at.left
puts_left t at = by (may_put at.io.out t at.io) refl
  where
    by : (b : Bool) → may_put at.io.out t at.io ≡ b → left_of (puts at.io.out t at) ≤ at.left
    by true e = rw e (omega arith)
    by false e = rw e (omega arith)

prints_left : (t : Text) (at : State) → left_of (prints t at) ≤ at.left
prints_left t at = by (spend (text_cost t) at) (never_rises (text_cost t) at)
  where
    by : (o : Outcome (Unit {0})) → left_of o ≤ at.left → left_of (and_then o (λ _ p. puts p.io.out t p)) ≤ at.left
    by (Ended done p) le = let less : left_of (puts p.io.out t p) ≤ p.left = puts_left t p in omega arith
    by (Faulted why l asked) le = le

ends_left : (o : Outcome (Unit {0})) (k : ℕ) → left_of o ≤ k → left_of {A = ℕ} (and_then o (λ _. pure 0)) ≤ k
ends_left (Ended done p) k le = le
ends_left (Faulted why l asked) k le = le

-- no step is given back
pub told_left : (r : Result Text Fault) (at : State) → left_of (told r at) ≤ at.left
told_left (Ok t) at = ends_left (prints t at) at.left (prints_left t at)
told_left (Err why) at = omega arith

-- a text was printed
pub told_ok : (r : Result Text Fault) (t : Text) (io : Io) (k : ℕ) (at : State) → r ≡ Ok t
    → Tells {A = Unit {0}} (Ok tt) (prints t at) (record at { io = io; left = k })
    → Tells {A = ℕ} (Ok 0) (told r at) (record at { io = io; left = k })
told_ok r t io k at e h = ap (λ q. told q at) e ∙ ap (λ o. and_then o (λ _. pure 0)) h

-- printing it was stopped
pub told_err : (r : Result Text Fault) (t : Text) (why : Stop) (io : Io) (k : ℕ) (at : State) → r ≡ Ok t
    → Tells {A = Unit {0}} (Err why) (prints t at) (record at { io = io; left = k })
    → Tells {A = ℕ} (Err why) (told r at) (record at { io = io; left = k })
told_err r t (stop.Fault why) io k at e h = ap (λ q. told q at) e ∙ ap (λ o. and_then o (λ _. pure 0)) h
told_err r t stop.Failed io k at e h = subst (λ q. left_of (told q at) ≤ k) (sym e) (ends_left (prints t at) k h)
told_err r t stop.Memory io k at e h = subst (λ q. left_of (told q at) ≤ k) (sym e) (ends_left (prints t at) k h)

-- there is a fault, or no room
pub told_fault : (why : Stop) (command : Text) (e : Ending) (t : Text) (io : Io) (k : ℕ) (at : State)
    → at.left ≡ k → Judges (Err why) command e → Tells {A = ℕ} (Err why) (told (judged command e t) at) (record at { io = io; left = k })
told_fault (stop.Fault why) command e t io k at same h =
    ap (λ q. told q at) (h t) ∙ ap (λ n. Faulted why n at.host.asked) same
told_fault stop.Failed command e t io k at same h = absurd h
told_fault stop.Memory command e t io k at same h = subst (λ n. left_of (told (judged command e t) at) ≤ n) same (told_left (judged command e t) at)
