-- What an instruction does that takes the outcome of a variable.
use Rattle.std.proofs.Common.{◌≡◌, ◌≢◌, ◌≤◌, ◌⊎◌, inl, inr, ℕ, zero, suc, ℤ, false, [], ◌∷◌, drop, unwrap_or, Option, Result, Ok, Err, refl, ap, sym, subst, ◌∙◌, if◌then◌else◌}
use Rattle.eb_bytes.specs.Text.{Text}
use Rattle.shell_vars.specs.declared.error.VarErr.{VarErr}
use Rattle.shell_vars.specs.declared.error.VarErr.TheVariants as var
use Rattle.shell_vars.specs.Store.{Store}
use Rattle.shell_vars.specs.Stores.{Refuses}
use Rattle.arith_syntax.specs.declared.instruction.Instruction.{Instruction}
use Rattle.arith_syntax.specs.declared.error.Refusal.{Refusal}
use Rattle.arith_syntax.specs.declared.error.Refusal.TheVariants as refusal
use Rattle.arith_syntax.specs.declared.error.ReadErr.{ReadErr}
use Rattle.arith_syntax.specs.declared.error.ReadErr.TheVariants as read
use Rattle.arith_syntax.specs.Code.{Code, program}
use Rattle.arith_syntax.specs.Names.{without_quotes}
use Rattle.bash_arith.specs.declared.error.ArithErr.{ArithErr}
use Rattle.bash_arith.specs.declared.error.ArithErr.TheVariants as e
use Rattle.bash_arith.specs.Machine.{Begins, Computes, Continues, GoesOn, Next, Stack, executed, fault_of_error, run, top}
use Rattle.bash_arith.specs.Outcome.{State, Outcome, Ended, Faulted, Changed, IsVar, Passes, Tells, and_then, last, left_of, paid_from}
use Rattle.arith_syntax.specs.declared.operator.Increment.{Increment}
use Rattle.arith_syntax.specs.declared.operator.Timing.{Timing}
use Rattle.bash_arith.specs.Numbers.{incremented, number_text}
use Rattle.bash_arith.specs.Value.{Evaluation, arithmetic, evaluate, nestings_of, increment, increment_value, text_value}
use Rattle.bash_arith.specs.Variables.{after_assignment, evaluated_text, fetched, stored}
use Rattle.shell_vars.specs.Calls as call
use Rattle.shell_vars.specs.Refused.{is_refused}
use Rattle.bash_arith.proofs.Compiled.{text_is_refused, text_runs}
use Rattle.bash_arith.proofs.Traces.{at_first, fetched_follows, left_later, run_follows, stored_follows, text_of_follows, text_value_follows, then_follows}

-- ---- outcomes that follow one another

pub same_goes_on : (o p : Outcome) → o ≡ p → GoesOn o p
same_goes_on o p e = record {
  ends = ap last e;
  passes = λ s h. subst (λ q. Passes q s) (sym e) h;
}

pub goes_on_as : (o p q : Outcome) → GoesOn o p → GoesOn p q → GoesOn o q
goes_on_as o p q h g = record {
  ends = h.ends ∙ g.ends;
  passes = λ s x. h.passes s (g.passes s x);
}

last_then : (o : Outcome) (f : ℤ → State → Outcome) (z : ℤ) (u : State) → last o ≡ Ended z u → last (and_then o f) ≡ last (f z u)
last_then (Ended y v) f z u h = let a : y ≡ z = cc in let b : v ≡ u = cc in ap (λ x. last (f x v)) a ∙ ap (λ x. last (f z x)) b
last_then (Faulted fault v) f z u h = absurd (cc)
last_then (Changed v o) f z u h = last_then o f z u h

passes_then : (o : Outcome) (f : ℤ → State → Outcome) (z : ℤ) (u s : State) → last o ≡ Ended z u → Passes (f z u) s → Passes (and_then o f) s
passes_then (Ended y v) f z u s h g = let a : z ≡ y = cc in let b : u ≡ v = cc in subst (λ x. Passes (f y x) s) b (subst (λ x. Passes (f x u) s) a g)
passes_then (Faulted fault v) f z u s h g = absurd (cc)
passes_then (Changed v o) f z u s h g = inr (passes_then o f z u s h g)

-- the part was evaluated, and the rest follows
pub goes_then : (o : Outcome) (f : ℤ → State → Outcome) (z : ℤ) (u : State) → last o ≡ Ended z u → GoesOn (and_then o f) (f z u)
goes_then o f z u h = record {
  ends = last_then o f z u h;
  passes = λ s g. passes_then o f z u s h g;
}

stops : (o : Outcome) (fault : ArithErr) (u : State) (f : ℤ → State → Outcome) → last o ≡ Faulted fault u → last (and_then o f) ≡ Faulted fault u
stops (Ended y v) fault u f h = absurd (cc)
stops (Faulted other v) fault u f h = h
stops (Changed v o) fault u f h = stops o fault u f h

-- a moment of the part is one of the whole
passes_part : (o : Outcome) (f : ℤ → State → Outcome) (s : State) → Passes o s → ((z : ℤ) (u : State) → Passes (f z u) u) → Passes (and_then o f) s
passes_part (Ended y v) f s h g = subst (λ x. Passes (f y v) x) h (g y v)
passes_part (Faulted fault v) f s h g = h
passes_part (Changed v o) f s h g = on h (λ later. passes_part o f s later g)
  where
    on : (v ≡ s) ⊎ Passes o s → (Passes o s → Passes (and_then o f) s) → (v ≡ s) ⊎ Passes (and_then o f) s
    on (inl e) rest = inl e
    on (inr later) rest = inr (rest later)

-- ---- answers

-- an answer of an outcome is one of each that goes on as it
pub told : (r : Result ℤ ArithErr) (o p : Outcome) (u : State) → GoesOn o p → Tells r p u → Tells r o u
told (Ok z) o p u h g = h.ends ∙ g
told (Err e.Syntax) o p u h g = h.ends ∙ g
told (Err e.DivZero) o p u h g = h.ends ∙ g
told (Err e.NegativeExponent) o p u h g = h.ends ∙ g
told (Err e.Nesting) o p u h g = h.ends ∙ g
told (Err (e.Unsupported x)) o p u h g = h.ends ∙ g
told (Err (e.Var x r)) o p u h g = (g.0, h.ends ∙ g.1)
told (Err e.Spent) o p u h g = h.ends ∙ g
told (Err e.Memory) o p u h g = h.passes u g

-- an outcome that is another's
pub told_same : (r : Result ℤ ArithErr) (o p : Outcome) (u : State) → o ≡ p → Tells r p u → Tells r o u
told_same r o p u e g = subst (λ x. Tells r x u) (sym e) g

-- a fault of a part is that of the whole
pub part_faults : (fault : ArithErr) (o : Outcome) (f : ℤ → State → Outcome) (u : State) → ((z : ℤ) (s : State) → Passes (f z s) s) → Tells (Err fault) o u → Tells (Err fault) (and_then o f) u
part_faults e.Syntax o f u g h = stops o e.Syntax u f h
part_faults e.DivZero o f u g h = stops o e.DivZero u f h
part_faults e.NegativeExponent o f u g h = stops o e.NegativeExponent u f h
part_faults e.Nesting o f u g h = stops o e.Nesting u f h
part_faults (e.Unsupported x) o f u g h = stops o (e.Unsupported x) u f h
part_faults (e.Var x r) o f u g h = (h.0, stops o (e.Var x r) u f h.1)
part_faults e.Spent o f u g h = stops o e.Spent u f h
part_faults e.Memory o f u g h = passes_part o f u h g

-- ---- instructions

-- goes on with the number on top of the stack
abbrev pub onto : Stack → Next → ℤ → State → Outcome
onto stack next z u = next 0 (z ∷ stack) u

pub goes_on : (o : Outcome) (z : ℤ) (u : State) (stack pushed : Stack) → last o ≡ Ended z u → pushed ≡ z ∷ stack → Continues (Ok 0) (λ next. and_then o (onto stack next)) pushed u
goes_on o z u stack pushed h g = λ next. subst (λ p. GoesOn (and_then o (onto stack next)) (next 0 p u)) (sym g) (goes_then o (onto stack next) z u h)

-- out of memory once the number is there
pub no_room : (o : Outcome) (z : ℤ) (u : State) (stack after : Stack) → last o ≡ Ended z u → Continues (Err e.Memory) (λ next. and_then o (onto stack next)) after u
no_room o z u stack after h = λ next g. passes_then o (onto stack next) z u u h (g 0 (z ∷ stack) u)

-- a fault of the variable is the instruction's
pub faults : (fault : ArithErr) (o : Outcome) (u : State) (stack after : Stack) → Tells (Err fault) o u → Continues (Err fault) (λ next. and_then o (onto stack next)) after u
faults e.Syntax o u stack after h = λ next. stops o e.Syntax u (onto stack next) h
faults e.DivZero o u stack after h = λ next. stops o e.DivZero u (onto stack next) h
faults e.NegativeExponent o u stack after h = λ next. stops o e.NegativeExponent u (onto stack next) h
faults e.Nesting o u stack after h = λ next. stops o e.Nesting u (onto stack next) h
faults (e.Unsupported x) o u stack after h = λ next. stops o (e.Unsupported x) u (onto stack next) h
faults (e.Var x r) o u stack after h = (h.0, λ next. stops o (e.Var x r) u (onto stack next) h.1)
faults e.Spent o u stack after h = λ next. stops o e.Spent u (onto stack next) h
faults e.Memory o u stack after h = λ next g. passes_part o (onto stack next) u h (λ z s. g 0 (z ∷ stack) s)

-- the instruction that was looked at
pub arm : (r : Result ℕ ArithErr) (n : ℕ) (ins got : Instruction) (old new : Stack) (s u : State) → ins ≡ got → Continues r (executed n got old s) new u → Continues r (executed n ins old s) new u
arm r n ins got old new s u h g = subst (λ x. Continues r (executed n x old s) new u) (sym h) g

-- what computes goes on; it never answers the fault of a variable
continues : (r : Result ℕ ArithErr) (done : Next → Outcome) (new : Stack) (u : State) → Computes r done new u → Continues r done new u
continues (Ok k) done new u h = λ next. same_goes_on (done next) (next k new u) (h next)
continues (Err e.Syntax) done new u h = λ next. ap last (h next)
continues (Err e.DivZero) done new u h = λ next. ap last (h next)
continues (Err e.NegativeExponent) done new u h = λ next. ap last (h next)
continues (Err e.Nesting) done new u h = λ next. ap last (h next)
continues (Err (e.Unsupported x)) done new u h = λ next. ap last (h next)
continues (Err (e.Var x r)) done new u h = (h.0, λ next. ap last (h.1 next))
continues (Err e.Spent) done new u h = λ next. ap last (h next)
continues (Err e.Memory) done new u h = h

pub arm_of_numbers : (r : Result ℕ ArithErr) (n : ℕ) (ins got : Instruction) (old new : Stack) (s : State) → ins ≡ got → Computes r (executed n got old s) new s → Continues r (executed n ins old s) new s
arm_of_numbers r n ins got old new s h g = arm r n ins got old new s s h (continues r (executed n got old s) new s g)

-- ---- texts

pub text_begins : (n : ℕ) (t : Text) (s : State) → Passes (text_value n t s) s
text_begins n t s = at_first (text_value n t s) s (text_value_follows n t s)

pub read_fails : (n : ℕ) (t : Text) (s : State) (error : ReadErr) (fault : ArithErr) → fault ≡ fault_of_error error → ((r : Refusal) → error ≡ read.Refused r → program n (without_quotes t) ≡ Err r) → Tells (Err fault) (text_value n t s) s
read_fails n t s (read.Refused refusal.Syntax) fault h g = told_same (Err fault) (text_value n t s) (Faulted e.Syntax s) s (text_is_refused n t s refusal.Syntax (g refusal.Syntax refl)) (subst (λ f. Tells (Err f) (Faulted e.Syntax s) s) (sym h) refl)
read_fails n t s (read.Refused refusal.Nesting) fault h g = told_same (Err fault) (text_value n t s) (Faulted e.Nesting s) s (text_is_refused n t s refusal.Nesting (g refusal.Nesting refl)) (subst (λ f. Tells (Err f) (Faulted e.Nesting s) s) (sym h) refl)
read_fails n t s read.Memory fault h g = subst (λ f. Tells (Err f) (text_value n t s) s) (sym h) (text_begins n t s)

pub text_runs_so : (n : ℕ) (t : Text) (s u : State) (code : Code) (r : Result ℤ ArithErr) → program n (without_quotes t) ≡ Ok code → Tells r (run n code 0 [] s) u → Tells r (text_value n t s) u
text_runs_so n t s u code r h g = told_same r (text_value n t s) (run n code 0 [] s) u (text_runs n t s code h) g

-- ---- variables

-- the value of a variable is its text's, once the step is paid
paid_is : (k m : ℕ) (s : State) (f : State → Outcome) → k ≡ suc m → paid_from k s f ≡ Changed s (f (record s { left = m }))
paid_is k m s f h = ap (λ j. paid_from j s f) h

answered_text : (ev : Text → Evaluation) (x : Text) (r : Result (Option Text) VarErr) (t : Option Text) (s : State) (m : ℕ) → r ≡ Ok t → s.left ≡ suc m → evaluated_text ev x r s ≡ Changed s (ev (unwrap_or t []) (record s { left = m }))
answered_text ev x r t s m h g = ap (λ q. evaluated_text ev x q s) h ∙ paid_is s.left m s (ev (unwrap_or t [])) g

paid_goes_on : (o : Outcome) (s : State) → GoesOn (Changed s o) o
paid_goes_on o s = record { ends = refl; passes = λ u h. inr h }

pub fetched_is : (ev : Text → Evaluation) (x : Text) (at : Option ℤ) (t : Option Text) (b : Text) (s u : State) → is_refused x ≡ false → call.element x at s.store ≡ Ok t → b ≡ unwrap_or t [] → u.store ≡ s.store → s.left ≡ suc u.left → GoesOn (fetched ev x at s) (ev b u)
fetched_is ev x at t b s u h g bytes same k =
    let paid : record s { left = u.left } ≡ u = ap (λ y. record u { store = y }) (sym same) in
    let is : fetched ev x at s ≡ Changed s (ev b u) =
    ap (λ y. if y then Faulted (e.Unsupported x) s else evaluated_text ev x (call.element x at s.store) s) h
    ∙ answered_text ev x (call.element x at s.store) t s u.left g k
    ∙ ap (λ y. Changed s (ev y (record s { left = u.left }))) (sym bytes)
    ∙ ap (λ y. Changed s (ev b y)) paid
    in
    goes_on_as (fetched ev x at s) (Changed s (ev b u)) (ev b u) (same_goes_on (fetched ev x at s) (Changed s (ev b u)) is) (paid_goes_on (ev b u) s)

fetched_err : (ev : Text → Evaluation) (x : Text) (at : Option ℤ) (refused : VarErr) (s : State) → is_refused x ≡ false → call.element x at s.store ≡ Err refused → fetched ev x at s ≡ Faulted (e.Var x refused) s
fetched_err ev x at refused s h g = ap (λ b. if b then Faulted (e.Unsupported x) s else evaluated_text ev x (call.element x at s.store) s) h ∙ ap (λ q. evaluated_text ev x q s) g

-- out of memory before the variable's text is evaluated
pub fetched_begins : (n : ℕ) (x : Text) (at : Option ℤ) (s : State) → Passes (fetched (evaluate (nestings_of n)) x at s) s
fetched_begins n x at s = at_first (fetched (evaluate (nestings_of n)) x at s) s (fetched_follows (evaluate (nestings_of n)) (text_of_follows n) x at s)

pub value_fails : (n : ℕ) (x : Text) (at : Option ℤ) (r : VarErr) (fault : ArithErr) (s : State) → is_refused x ≡ false → call.element x at s.store ≡ Err r → IsVar fault x r → Tells (Err fault) (fetched (evaluate (nestings_of n)) x at s) s
value_fails n x at r e.Memory s h g i = fetched_begins n x at s
value_fails n x at r (e.Var y given) s h g i = (i.2, ap last (fetched_err (evaluate (nestings_of n)) x at r s h g) ∙ ap (λ z. Faulted (e.Var z r) s) (sym i.0) ∙ ap (λ z. Faulted (e.Var y z) s) (sym i.1))
value_fails n x at r e.Syntax s h g i = absurd i
value_fails n x at r e.DivZero s h g i = absurd i
value_fails n x at r e.NegativeExponent s h g i = absurd i
value_fails n x at r e.Nesting s h g i = absurd i
value_fails n x at r (e.Unsupported y) s h g i = absurd i
value_fails n x at r e.Spent s h g i = absurd i

-- where a nesting may be opened, a variable's text is evaluated with one less
pub opened_value : (k m : ℕ) (t : Text) (s : State) → k ≡ suc m → evaluate (nestings_of k) t s ≡ text_value m t s
unfolding nestings_of text_value
opened_value k m t s h = ap (λ j. evaluate (nestings_of j) t s) h

pub closed_value : (k : ℕ) (t : Text) (s : State) → k ≡ 0 → evaluate (nestings_of k) t s ≡ Faulted e.Nesting s
unfolding nestings_of
closed_value k t s h = ap (λ j. evaluate (nestings_of j) t s) h

-- ---- runs

pub run_dropped : (n : ℕ) (code : Code) (k : ℕ) (stack : Stack) (s : State) → run n code k stack s ≡ run n (drop k code) 0 stack s
unfolding run
run_dropped n [] zero stack s = refl
run_dropped n [] (suc k) stack s = refl
run_dropped n (c ∷ code) zero stack s = refl
run_dropped n (c ∷ code) (suc k) stack s = run_dropped n code k stack s

run_on : (n : ℕ) (c : Instruction) (code : Code) (stack after : Stack) (s u : State) (k : ℕ) → Continues (Ok k) (executed n c stack s) after u → GoesOn (run n (c ∷ code) 0 stack s) (run n (drop k code) 0 after u)
unfolding run
run_on n c code stack after s u k h = subst (λ p. GoesOn (run n (c ∷ code) 0 stack s) p) (run_dropped n code k after u) (h (λ j more v. run n code j more v))

run_begins : (n : ℕ) (code : Code) → Begins (λ j more v. run n code j more v)
run_begins n code k stack s = at_first (run n code k stack s) s (run_follows n code k stack s)

run_fails : (n : ℕ) (c : Instruction) (code : Code) (stack after : Stack) (s u : State) (fault : ArithErr) → Continues (Err fault) (executed n c stack s) after u → Tells (Err fault) (run n (c ∷ code) 0 stack s) u
unfolding run
run_fails n c code stack after s u e.Syntax h = h (λ j more v. run n code j more v)
run_fails n c code stack after s u e.DivZero h = h (λ j more v. run n code j more v)
run_fails n c code stack after s u e.NegativeExponent h = h (λ j more v. run n code j more v)
run_fails n c code stack after s u e.Nesting h = h (λ j more v. run n code j more v)
run_fails n c code stack after s u (e.Unsupported x) h = h (λ j more v. run n code j more v)
run_fails n c code stack after s u (e.Var x r) h = (h.0, h.1 (λ j more v. run n code j more v))
run_fails n c code stack after s u e.Spent h = h (λ j more v. run n code j more v)
run_fails n c code stack after s u e.Memory h = h (λ j more v. run n code j more v) (run_begins n code)

run_ends : (n : ℕ) (stack : Stack) (s : State) → run n [] 0 stack s ≡ Ended (top stack) s
unfolding run
run_ends n stack s = refl

-- where the list of instructions is known by its first one and the rest
pub run_on_from : (n : ℕ) (whole code : Code) (c : Instruction) (stack after : Stack) (s u : State) (k : ℕ) → whole ≡ c ∷ code → Continues (Ok k) (executed n c stack s) after u → GoesOn (run n whole 0 stack s) (run n (drop k code) 0 after u)
run_on_from n whole code c stack after s u k h g = subst (λ x. GoesOn (run n x 0 stack s) (run n (drop k code) 0 after u)) (sym h) (run_on n c code stack after s u k g)

pub run_fails_from : (n : ℕ) (whole code : Code) (c : Instruction) (stack after : Stack) (s u : State) (fault : ArithErr) → whole ≡ c ∷ code → Continues (Err fault) (executed n c stack s) after u → Tells (Err fault) (run n whole 0 stack s) u
run_fails_from n whole code c stack after s u fault h g = subst (λ x. Tells (Err fault) (run n x 0 stack s) u) (sym h) (run_fails n c code stack after s u fault g)

pub run_ends_from : (n : ℕ) (whole : Code) (stack : Stack) (s : State) → whole ≡ [] → run n whole 0 stack s ≡ Ended (top stack) s
run_ends_from n whole stack s h = ap (λ x. run n x 0 stack s) h ∙ run_ends n stack s

-- ---- increments

-- the value was taken, and the new number is assigned
pub incremented_so : (ev : Text → Evaluation) (w : Timing) (d : Increment) (x : Text) (at : Option ℤ) (s u : State) (z : ℤ) → last (fetched ev x at s) ≡ Ended z u → GoesOn (increment ev w d x at s) (and_then (stored x at (incremented d z) u) (λ m q. Ended (increment_value w z m) q))
incremented_so ev w d x at s u z h = goes_then (fetched ev x at s) (λ n p. and_then (stored x at (incremented d n) p) (λ m q. Ended (increment_value w n m) q)) z u h

increment_begins : (w : Timing) (d : Increment) (x : Text) (at : Option ℤ) (z : ℤ) (s : State) → Passes (and_then (stored x at (incremented d z) s) (λ m q. Ended (increment_value w z m) q)) s
increment_begins w d x at z s = at_first (and_then (stored x at (incremented d z) s) (λ m q. Ended (increment_value w z m) q)) s (then_follows (stored x at (incremented d z) s) (λ m q. Ended (increment_value w z m) q) s (stored_follows x at (incremented d z) s) (λ m v. refl))

-- the value cannot be taken
pub increment_faults : (ev : Text → Evaluation) (w : Timing) (d : Increment) (x : Text) (at : Option ℤ) (s u : State) (fault : ArithErr) (stack after : Stack) → Tells (Err fault) (fetched ev x at s) u → Continues (Err fault) (λ next. and_then (increment ev w d x at s) (onto stack next)) after u
increment_faults ev w d x at s u fault stack after h =
    faults fault (increment ev w d x at s) u stack after (part_faults fault (fetched ev x at s) (λ n p. and_then (stored x at (incremented d n) p) (λ m q. Ended (increment_value w n m) q)) u (λ z p. increment_begins w d x at z p) h)

-- the new number cannot be assigned
pub assignment_faults : (ev : Text → Evaluation) (w : Timing) (d : Increment) (x : Text) (at : Option ℤ) (s u v : State) (z : ℤ) (fault : ArithErr) (stack after : Stack) → last (fetched ev x at s) ≡ Ended z u → Tells (Err fault) (stored x at (incremented d z) u) v → Continues (Err fault) (λ next. and_then (increment ev w d x at s) (onto stack next)) after v
assignment_faults ev w d x at s u v z fault stack after h g =
    faults fault (increment ev w d x at s) v stack after
    (told (Err fault) (increment ev w d x at s) (and_then (stored x at (incremented d z) u) (λ m q. Ended (increment_value w z m) q)) v (incremented_so ev w d x at s u z h)
    (part_faults fault (stored x at (incremented d z) u) (λ m q. Ended (increment_value w z m) q) v (λ m q. refl) g))

pub increment_done : (ev : Text → Evaluation) (w : Timing) (d : Increment) (x : Text) (at : Option ℤ) (s u v : State) (z n : ℤ) → last (fetched ev x at s) ≡ Ended z u → last (stored x at (incremented d z) u) ≡ Ended n v → last (increment ev w d x at s) ≡ Ended (increment_value w z n) v
increment_done ev w d x at s u v z n h g = (incremented_so ev w d x at s u z h).ends ∙ last_then (stored x at (incremented d z) u) (λ m q. Ended (increment_value w z m) q) n v g

-- what is told of an assignment, with its parts under other names
pub stored_as : (r : Result ℤ ArithErr) (y x : Text) (b a : Option ℤ) (k n : ℤ) (u v : State) → y ≡ x → b ≡ a → k ≡ n → Tells r (stored y b k u) v → Tells r (stored x a n u) v
stored_as r y x b a k n u v i j l g = subst (λ q. Tells r (stored x a q u) v) l (subst (λ q. Tells r (stored x q k u) v) j (subst (λ q. Tells r (stored q b k u) v) i g))

-- ---- assignments

assigned_err : (x : Text) (at : Option ℤ) (z : ℤ) (r : VarErr) (s : State) → call.assign x at (number_text z) s.store ≡ Err r → stored x at z s ≡ Faulted (e.Var x r) s
assigned_err x at z r s h = ap (λ q. after_assignment x z q s) h

assign_told : (x y : Text) (at : Option ℤ) (z : ℤ) (r given : VarErr) (s : State) → call.assign x at (number_text z) s.store ≡ Err r → y ≡ x → given ≡ r → given ≢ var.Memory → Tells (Err (e.Var y given)) (stored x at z s) s
assign_told x y at z r given s h i j k = (k, ap last (assigned_err x at z r s h) ∙ ap (λ q. Faulted (e.Var q r) s) (sym i) ∙ ap (λ q. Faulted (e.Var y q) s) (sym j))

pub assign_begins : (x : Text) (at : Option ℤ) (z : ℤ) (s : State) → Passes (stored x at z s) s
assign_begins x at z s = at_first (stored x at z s) s (stored_follows x at z s)

pub assign_fails : (x : Text) (at : Option ℤ) (z : ℤ) (r : VarErr) (fault : ArithErr) (s : State) → Refuses r (call.assign x at (number_text z) s.store) → IsVar fault x r → Tells (Err fault) (stored x at z s) s
assign_fails x at z r e.Memory s h i = assign_begins x at z s
assign_fails x at z var.Readonly (e.Var y given) s h i = assign_told x y at z var.Readonly given s h i.0 i.1 i.2
assign_fails x at z var.LocalOutside (e.Var y given) s h i = assign_told x y at z var.LocalOutside given s h i.0 i.1 i.2
assign_fails x at z var.BadSubscript (e.Var y given) s h i = assign_told x y at z var.BadSubscript given s h i.0 i.1 i.2
assign_fails x at z var.ValueSize (e.Var y given) s h i = assign_told x y at z var.ValueSize given s h i.0 i.1 i.2
assign_fails x at z var.TotalSize (e.Var y given) s h i = assign_told x y at z var.TotalSize given s h i.0 i.1 i.2
assign_fails x at z var.Memory (e.Var y given) s h i = absurd (i.2 i.1)
assign_fails x at z r e.Syntax s h i = absurd i
assign_fails x at z r e.DivZero s h i = absurd i
assign_fails x at z r e.NegativeExponent s h i = absurd i
assign_fails x at z r e.Nesting s h i = absurd i
assign_fails x at z r (e.Unsupported y) s h i = absurd i
assign_fails x at z r e.Spent s h i = absurd i

pub assign_done : (x : Text) (at : Option ℤ) (z : ℤ) (store : Store) (s : State) → call.assign x at (number_text z) s.store ≡ Ok store → last (stored x at z s) ≡ Ended z (record s { store = store })
assign_done x at z store s h = ap (λ q. last (after_assignment x z q s)) h

-- out of memory, whatever was read of it
pub memory_told : (r : Result ℤ ArithErr) (o : Outcome) (u : State) → r ≡ Err e.Memory → Passes o u → Tells r o u
memory_told r o u h g = subst (λ q. Tells q o u) (sym h) g

pub memory_continues : (r : Result ℕ ArithErr) (done : Next → Outcome) (new : Stack) (u : State) → r ≡ Err e.Memory → Continues (Err e.Memory) done new u → Continues r done new u
memory_continues r done new u h g = subst (λ q. Continues q done new u) (sym h) g

pub fault_continues : (r : Result ℕ ArithErr) (fault : ArithErr) (done : Next → Outcome) (new : Stack) (u : State) → r ≡ Err fault → Continues (Err fault) done new u → Continues r done new u
fault_continues r fault done new u h g = subst (λ q. Continues q done new u) (sym h) g

-- ---- the whole text

-- out of memory has used no more steps than the whole evaluation does
pub arithmetic_spent : (t : Text) (s u : State) (r : Result ℤ ArithErr) → r ≡ Err e.Memory → Tells r (text_value 64 t s) u → left_of (arithmetic t s) ≤ u.left
unfolding arithmetic
arithmetic_spent t s u r h g = left_later (text_value 64 t s) s u (text_value_follows 64 t s) (subst (λ q. Tells q (text_value 64 t s) u) h g)

pub never_memory : (r : Result ℤ ArithErr) (o : Outcome) (u : State) (x : Text) → Tells r o u → r ≢ Err (e.Var x var.Memory)
never_memory r o u x g h = let never : (var.Memory ≢ var.Memory) × (last o ≡ Faulted (e.Var x var.Memory) u) = subst (λ q. Tells q o u) h g in never.0 refl
