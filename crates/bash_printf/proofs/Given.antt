-- A text that is given to a variable, as a part of a run.
use Rattle.std.proofs.Common.{◌≡◌, ℕ, ◌≤◌, ℤ, Option, Some, None, Result, Ok, Err, sym, ap, subst, ◌∙◌, arith}
use Rattle.eb_bytes.specs.Text.{Text}
use Rattle.shell_vars.specs.Store.{Store}
use Rattle.shell_state.specs.Outcome.{Doing, Outcome, Ended, Faulted, and_then, left_of, pure, Tells}
use Rattle.shell_state.specs.Spending.{text_cost, spend}
use Rattle.shell_state.specs.State.{State}
use Rattle.shell_state.specs.declared.fault.Fault.{Fault}
use Rattle.shell_state.specs.declared.stop.Stop.{Stop}
use Rattle.shell_state.specs.declared.stop.Stop.TheVariants as stop
use Rattle.shell_state.proofs.Spent.{never_rises}
use Rattle.bash_assign.specs.Assignments.{assigns}
use Rattle.bash_assign.proofs.Assigned.{assigns_left}
use Rattle.bash_cond.specs.Arithmetic.{evaluates}
use Rattle.bash_cond.proofs.Evaluated as evaluated
use Rattle.printf_format.specs.declared.escapes.Ending.{Ending}
use Rattle.bash_printf.specs.Printf.{given, gives, index_of}
use Rattle.bash_printf.specs.Printing.{judged, Judges}

-- what follows a part gives no steps back either
kept : {A B : Type 0} (o : Outcome A) (f : A → Doing B) (k : ℕ) → ((a : A) (p : State) → left_of (f a p) ≤ p.left)
    → left_of o ≤ k → left_of (and_then o f) ≤ k
kept (Ended a p) f k less le = let more : left_of (f a p) ≤ p.left = less a p in omega arith
kept (Faulted why l asked) f k less le = le

pub given_left : (name : Text) (at : Option ℤ) (r : Result Text Fault) (p : State) → left_of (given name at r p) ≤ p.left
given_left name at (Ok t) p =
    kept (spend (text_cost t) p) (λ _ q. and_then (assigns name at t q) (λ _. pure 0)) p.left
    (λ _ q. kept (assigns name at t q) (λ _. pure 0) q.left (λ _ s. omega arith) (assigns_left name at t q))
    (never_rises (text_cost t) p)
given_left name at (Err why) p = omega arith

pub index_left : (s : Option Text) (p : State) → left_of (index_of s p) ≤ p.left
index_left None p = omega arith
index_left (Some t) p = kept (evaluates t p) (λ n. pure (Some n)) p.left (λ _ q. omega arith) (evaluated.never_rises t p)

-- ---- where giving it stops

-- before anything is spent
pub not_given : (why : Stop) (command : Text) (e : Ending) (t name : Text) (i : Option ℤ) (store : Store) (k : ℕ) (at : State)
    → at.left ≡ k → Judges (Err why) command e
    → Tells {A = ℕ} (Err why) (given name i (judged command e t) at) (record at { store = store; left = k })
not_given (stop.Fault why) command e t name i store k at same h =
    ap (λ q. given name i q at) (h t) ∙ ap (λ n. Faulted why n at.host.asked) same
not_given stop.Failed command e t name i store k at same h = absurd h
not_given stop.Memory command e t name i store k at same h =
    subst (λ n. left_of (given name i (judged command e t) at) ≤ n) same (given_left name i (judged command e t) at)

-- a fault or the end of memory of a part is one of the whole, in the state at that moment
stopped : {A B : Type 0} (why : Stop) (o : Outcome A) (f : A → Doing B) (at : State)
    → ((a : A) (p : State) → left_of (f a p) ≤ p.left) → Tells {A = A} (Err why) o at → Tells {A = B} (Err why) (and_then o f) at
stopped (stop.Fault why) o f at less h = ap (λ q. and_then q f) h
stopped stop.Failed o f at less h = kept o f at.left less h
stopped stop.Memory o f at less h = kept o f at.left less h

-- where it cannot be paid
pub not_paid : (why : Stop) (r : Result Text Fault) (t name : Text) (i : Option ℤ) (store : Store) (k : ℕ) (at : State)
    → r ≡ Ok t → Tells {A = Unit {0}} (Err why) (spend (text_cost t) at) (record at { left = k })
    → Tells {A = ℕ} (Err why) (given name i r at) (record at { store = store; left = k })
not_paid why r t name i store k at e h =
    subst (λ q. Tells {A = ℕ} (Err why) (given name i q at) (record at { store = store; left = k })) (sym e)
    (of why (stopped why (spend (text_cost t) at) (λ _ q. and_then (assigns name i t q) (λ _. pure 0)) (record at { left = k })
    (λ _ q. kept (assigns name i t q) (λ _. pure 0) q.left (λ _ s. omega arith) (assigns_left name i t q)) h))
  where
    of : (w : Stop) → Tells {A = ℕ} (Err w) (given name i (Ok t) at) (record at { left = k })
        → Tells {A = ℕ} (Err w) (given name i (Ok t) at) (record at { store = store; left = k })
    of (stop.Fault f) g = g
    of stop.Failed g = g
    of stop.Memory g = g

-- where it is paid
paid : (r : Result Text Fault) (t name : Text) (i : Option ℤ) (k : ℕ) (at : State)
    → r ≡ Ok t → spend (text_cost t) at ≡ Ended tt (record at { left = k })
    → given name i r at ≡ and_then (assigns name i t (record at { left = k })) (λ _. pure 0)
paid r t name i k at e h =
    ap (λ q. given name i q at) e ∙ ap (λ o. and_then o (λ _ q. and_then (assigns name i t q) (λ _. pure 0))) h

pub no_room : (r : Result Text Fault) (t name : Text) (i : Option ℤ) (store : Store) (k : ℕ) (at : State)
    → r ≡ Ok t → spend (text_cost t) at ≡ Ended tt (record at { left = k })
    → Tells {A = ℕ} (Err stop.Memory) (given name i r at) (record at { store = store; left = k })
no_room r t name i store k at e h =
    subst (λ o. left_of o ≤ k) (sym (paid r t name i k at e h))
    (kept (assigns name i t (record at { left = k })) (λ _. pure 0) k (λ _ s. omega arith) (assigns_left name i t (record at { left = k })))

pub not_taken : (why : Stop) (r : Result Text Fault) (t name : Text) (i : Option ℤ) (store : Store) (k : ℕ) (at : State)
    → r ≡ Ok t → spend (text_cost t) at ≡ Ended tt (record at { left = k })
    → Tells {A = Unit {0}} (Err why) (assigns name i t (record at { left = k })) (record at { store = store; left = k })
    → Tells {A = ℕ} (Err why) (given name i r at) (record at { store = store; left = k })
not_taken why r t name i store k at e h g =
    subst (λ o. Tells {A = ℕ} (Err why) o (record at { store = store; left = k })) (sym (paid r t name i k at e h))
    (stopped why (assigns name i t (record at { left = k })) (λ _. pure 0) (record at { store = store; left = k }) (λ _ s. omega arith) g)

pub is_taken : (r : Result Text Fault) (t name : Text) (i : Option ℤ) (store : Store) (k : ℕ) (at : State)
    → r ≡ Ok t → spend (text_cost t) at ≡ Ended tt (record at { left = k })
    → Tells {A = Unit {0}} (Ok tt) (assigns name i t (record at { left = k })) (record at { store = store; left = k })
    → Tells {A = ℕ} (Ok 0) (given name i r at) (record at { store = store; left = k })
is_taken r t name i store k at e h g = paid r t name i k at e h ∙ ap (λ o. and_then o (λ _. pure 0)) g

-- ---- the subscript first

pub no_subscript : (s : Option Text) (store : Store) (k : ℕ) (at : State) → s ≡ None → at.store ≡ store → at.left ≡ k
    → Tells {A = Option ℤ} (Ok None) (index_of s at) (record at { store = store; left = k })
no_subscript s store k at e same less =
    ap (λ q. index_of q at) e ∙ ap (λ x. Ended None (record at { store = x })) same
    ∙ ap (λ n. Ended None (record at { store = store; left = n })) less

pub index_taken : (s : Option Text) (t : Text) (n : ℤ) (at after : State) → s ≡ Some t → Tells {A = ℤ} (Ok n) (evaluates t at) after
    → Tells {A = Option ℤ} (Ok (Some n)) (index_of s at) after
index_taken s t n at after e h = ap (λ q. index_of q at) e ∙ ap (λ o. and_then o (λ m. pure (Some m))) h

pub index_fails : (why : Stop) (s : Option Text) (t : Text) (at after : State) → s ≡ Some t → Tells {A = ℤ} (Err why) (evaluates t at) after
    → Tells {A = Option ℤ} (Err why) (index_of s at) after
index_fails why s t at after e h =
    subst (λ q. Tells {A = Option ℤ} (Err why) (index_of q at) after) (sym e)
    (stopped why (evaluates t at) (λ m. pure (Some m)) after (λ _ p. omega arith) h)

pub index_stopped : (why : Stop) (s : Option Text) (name : Text) (r : Result Text Fault) (at after : State)
    → Tells {A = Option ℤ} (Err why) (index_of s at) after → Tells {A = ℕ} (Err why) (gives name s r at) after
index_stopped why s name r at after h =
    stopped why (index_of s at) (λ i. given name i r) after (λ i p. given_left name i r p) h
