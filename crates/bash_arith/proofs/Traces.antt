-- An evaluation begins in the state that it is given, and no change adds steps.
use Rattle.std.proofs.Common.{arith, ◌≡◌, ◌⊎◌, inl, inr, ℕ, zero, suc, min, ◌≤◌, ℤ, pos, Bool, true, false, not, [], ◌∷◌, unwrap_or, Option, Some, None, Result, Ok, Err, refl, ap, subst, if◌then◌else◌}
use Rattle.eb_bytes.specs.Text.{Text}
use Rattle.shell_vars.specs.declared.error.VarErr.{VarErr}
use Rattle.shell_vars.specs.Store.{Store}
use Rattle.arith_syntax.specs.declared.instruction.Instruction.{Instruction}
use Rattle.arith_syntax.specs.declared.instruction.Instruction.TheVariants as i
use Rattle.arith_syntax.specs.declared.operator.Operator.{Operator}
use Rattle.arith_syntax.specs.declared.operator.BinaryOperator.{BinaryOperator}
use Rattle.arith_syntax.specs.declared.operator.BinaryOperator.TheVariants.{Comma, Or, And, Both}
use Rattle.arith_syntax.specs.declared.operator.Increment.{Increment}
use Rattle.arith_syntax.specs.declared.operator.Timing.{Timing}
use Rattle.arith_syntax.specs.declared.error.Refusal.{Refusal}
use Rattle.arith_syntax.specs.Expression.{Expression, Variable, Named, Element, Nothing, Constant, ValueOf, Opened, Signed, Incremented, Raised, Joined, Chosen, Assigned}
use Rattle.arith_syntax.specs.Reading.{expression}
use Rattle.arith_syntax.specs.Code.{Code}
use Rattle.bash_arith.specs.declared.error.ArithErr.{ArithErr}
use Rattle.bash_arith.specs.Machine.{Next, Stack, below, executed, run, subscript, text_of, top, without_subscript}
use Rattle.bash_arith.specs.Numbers.{is_zero, truth, operated, signed, raised, incremented}
use Rattle.bash_arith.specs.Outcome.{State, Outcome, Ended, Faulted, Changed, Passes, and_then, left_of, paid_from}
use Rattle.bash_arith.specs.Value.{Nestings, Evaluation, Use, answered, arithmetic, assign, chosen, evaluate, inside, joined, nestings_of, read_value, increment, increment_value, text_value, used, valued}
use Rattle.bash_arith.specs.Variables.{after_assignment, evaluated_text, fetched, stored}
use Rattle.shell_vars.specs.Calls as call
use Rattle.shell_vars.specs.Refused.{is_refused}
use Rattle.bash_arith.specs.Numbers.{number_text}

abbrev pub Follows : State → Outcome → Type 0
Follows s (Ended z u) = u ≡ s
Follows s (Faulted fault u) = u ≡ s
Follows s (Changed u o) = (u ≡ s) × ((w : State) × (w.left ≤ s.left) × Follows w o)

abbrev pub AlwaysFollows : Evaluation → Type 0
AlwaysFollows f = (s : State) → Follows s (f s)

pub then_follows : (o : Outcome) (f : ℤ → Evaluation) (s : State) → Follows s o → ((z : ℤ) → AlwaysFollows (f z)) → Follows s (and_then o f)
then_follows (Ended z u) f s h g = subst (λ w. Follows w (f z u)) h (g z u)
then_follows (Faulted fault u) f s h g = h
then_follows (Changed u o) f s h g = (h.0, (h.1.0, h.1.1, then_follows o f h.1.0 h.1.2 g))

-- the state that it is given is its first one
pub at_first : (o : Outcome) (s : State) → Follows s o → Passes o s
at_first (Ended z u) s h = h
at_first (Faulted fault u) s h = h
at_first (Changed u o) s h = inl h.0

-- what is left in the end was left before
left_at_first : (o : Outcome) (s : State) → Follows s o → left_of o ≤ s.left
left_at_first (Ended z u) s h = let e : u.left ≡ s.left = ap (λ w. w.left) h in omega (arith, e)
left_at_first (Faulted fault u) s h = let e : u.left ≡ s.left = ap (λ w. w.left) h in omega (arith, e)
left_at_first (Changed u o) s h = let more : left_of o ≤ h.1.0.left = left_at_first o h.1.0 h.1.2 in omega (arith, more, h.1.1)

pub left_later : (o : Outcome) (s u : State) → Follows s o → Passes o u → left_of o ≤ u.left
left_later (Ended z v) s u h g = let e : v.left ≡ u.left = ap (λ w. w.left) g in omega (arith, e)
left_later (Faulted fault v) s u h g = let e : v.left ≡ u.left = ap (λ w. w.left) g in omega (arith, e)
left_later (Changed v o) s u h g = on g (λ later. left_later o h.1.0 u h.1.2 later)
  where
    on : (v ≡ u) ⊎ Passes o u → (Passes o u → left_of o ≤ u.left) → left_of o ≤ u.left
    on (inl e) rest =
        let more : left_of o ≤ h.1.0.left = left_at_first o h.1.0 h.1.2 in
        let first : v.left ≡ s.left = ap (λ w. w.left) h.0 in
        let here : v.left ≡ u.left = ap (λ w. w.left) e in
        omega (arith, more, first, here, h.1.1)
    on (inr later) rest = rest later

fewer : (n m : ℕ) → m ≡ suc n → n ≤ m
fewer n m e = omega arith

pub paid_follows : (n : ℕ) (s : State) (f : Evaluation) → s.left ≡ n → AlwaysFollows f → Follows s (paid_from n s f)
paid_follows zero s f e h = refl
paid_follows (suc n) s f e h = (refl, (record s { left = n }, fewer n s.left e, h (record s { left = n })))

pub text_follows : (ev : Text → Evaluation) → ((t : Text) → AlwaysFollows (ev t)) → (x : Text) (r : Result (Option Text) VarErr) → AlwaysFollows (evaluated_text ev x r)
text_follows ev h x (Ok t) s = paid_follows s.left s (ev (unwrap_or t [])) refl (h (unwrap_or t []))
text_follows ev h x (Err e) s = refl

pub either_follows : (b : Bool) (x y : Outcome) (s : State) → Follows s x → Follows s y → Follows s (if b then x else y)
either_follows true x y s h g = h
either_follows false x y s h g = g

pub fetched_follows : (ev : Text → Evaluation) → ((t : Text) → AlwaysFollows (ev t)) → (x : Text) (at : Option ℤ) → AlwaysFollows (fetched ev x at)
fetched_follows ev h x at s = either_follows (is_refused x) _ (evaluated_text ev x (call.element x at s.store) s) s (refl) (text_follows ev h x (call.element x at s.store) s)

same_left : (n : ℕ) → n ≤ n
same_left n = omega arith

pub after_follows : (x : Text) (z : ℤ) (r : Result Store VarErr) → AlwaysFollows (after_assignment x z r)
after_follows x z (Ok store) s = (refl, (record s { store = store }, same_left s.left, refl))
after_follows x z (Err e) s = refl

pub stored_follows : (x : Text) (at : Option ℤ) (z : ℤ) → AlwaysFollows (stored x at z)
stored_follows x at z s = after_follows x z (call.assign x at (number_text z) s.store) s

pub answered_follows : (r : Result ℤ ArithErr) → AlwaysFollows (answered r)
answered_follows (Ok z) s = refl
answered_follows (Err e) s = refl

pub increment_follows : (ev : Text → Evaluation) → ((t : Text) → AlwaysFollows (ev t)) → (w : Timing) (d : Increment) (x : Text) (at : Option ℤ) → AlwaysFollows (increment ev w d x at)
increment_follows ev h w d x at s =
    then_follows (fetched ev x at s) (λ n u. and_then (stored x at (incremented d n) u) (λ m v. Ended (increment_value w n m) v)) s (fetched_follows ev h x at s)
    (λ n u. then_follows (stored x at (incremented d n) u) (λ m v. Ended (increment_value w n m) v) u (stored_follows x at (incremented d n) u) (λ m v. refl))

pub joined_follows : (j : BinaryOperator) (l : ℤ) (right : Evaluation) → AlwaysFollows right → AlwaysFollows (joined j l right)
joined_follows Comma l right h s = h s
joined_follows Or l right h s =
    either_follows (is_zero l) (and_then (right s) (λ r u. Ended (truth (not (is_zero r))) u)) (Ended (pos 1) s) s (then_follows (right s) (λ r u. Ended (truth (not (is_zero r))) u) s (h s) (λ r u. refl)) (refl)
joined_follows And l right h s =
    either_follows (is_zero l) (Ended (pos 0) s) (and_then (right s) (λ r u. Ended (truth (not (is_zero r))) u)) s (refl) (then_follows (right s) (λ r u. Ended (truth (not (is_zero r))) u) s (h s) (λ r u. refl))
joined_follows (Both o) l right h s = then_follows (right s) (λ r u. answered (operated o l r) u) s (h s) (λ r u. answered_follows (operated o l r) u)

pub assign_follows : (ev : Text → Evaluation) → ((t : Text) → AlwaysFollows (ev t)) → (by : Option Operator) (x : Text) (at : Option ℤ) (right : Evaluation) → AlwaysFollows right → AlwaysFollows (assign ev by x at right)
assign_follows ev h None x at right g s = then_follows (right s) (λ r u. stored x at r u) s (g s) (λ r u. stored_follows x at r u)
assign_follows ev h (Some o) x at right g s =
    then_follows (fetched ev x at s) (λ l u. and_then (right u) (λ r v. and_then (answered (operated o l r) v) (λ n w. stored x at n w))) s (fetched_follows ev h x at s)
    (λ l u. then_follows (right u) (λ r v. and_then (answered (operated o l r) v) (λ n w. stored x at n w)) u (g u)
    (λ r v. then_follows (answered (operated o l r) v) (λ n w. stored x at n w) v (answered_follows (operated o l r) v) (λ n w. stored_follows x at n w)))

-- at each level
abbrev AllFollow : Nestings → Type 0
AllFollow [] = Unit {0}
AllFollow (l ∷ ls) = ((t : Text) → AlwaysFollows (l t)) × AllFollow ls

pub evaluate_follows : (ls : Nestings) → AllFollow ls → (t : Text) → AlwaysFollows (evaluate ls t)
evaluate_follows [] h t s = refl
evaluate_follows (l ∷ ls) h t s = h.0 t s

pub inside_follows : (ls : Nestings) → AllFollow ls → AllFollow (inside ls)
inside_follows [] h = tt
inside_follows (l ∷ ls) h = h.1

mutual
  unfolding used valued

  used_follows : (v : Variable) (ls : Nestings) → AllFollow ls → (act : Use) → ((x : Text) (at : Option ℤ) → AlwaysFollows (act x at)) → AlwaysFollows (used ls v act)
  used_follows (Named x) ls h act g s = g x None s
  used_follows (Element x e) ls h act g s = then_follows (valued ls e s) (λ at u. act x (Some at) u) s (valued_follows e ls h s) (λ at u. g x (Some at) u)

  valued_follows : (e : Expression) (ls : Nestings) → AllFollow ls → AlwaysFollows (valued ls e)
  valued_follows Nothing ls h s = refl
  valued_follows (Constant z) ls h s = refl
  valued_follows (ValueOf v) ls h s = used_follows v ls h (fetched (evaluate ls)) (fetched_follows (evaluate ls) (evaluate_follows ls h)) s
  valued_follows (Opened e) ls h s = valued_follows e (inside ls) (inside_follows ls h) s
  valued_follows (Signed sign e) ls h s = then_follows (valued ls e s) (λ n u. Ended (signed sign n) u) s (valued_follows e ls h s) (λ n u. refl)
  valued_follows (Incremented w d v) ls h s = used_follows v ls h (increment (evaluate ls) w d) (increment_follows (evaluate ls) (evaluate_follows ls h) w d) s
  valued_follows (Raised base e) ls h s =
      then_follows (valued ls base s) (λ b u. and_then (valued ls e u) (λ n v. answered (raised b n) v)) s (valued_follows base ls h s)
      (λ b u. then_follows (valued ls e u) (λ n v. answered (raised b n) v) u (valued_follows e ls h u) (λ n v. answered_follows (raised b n) v))
  valued_follows (Joined j left right) ls h s =
      then_follows (valued ls left s) (λ l u. joined j l (valued ls right) u) s (valued_follows left ls h s) (λ l u. joined_follows j l (valued ls right) (valued_follows right ls h) u)
  valued_follows (Chosen c a b) ls h s =
      then_follows (valued ls c s) (λ n u. chosen n (valued ls a) (valued ls b) u) s (valued_follows c ls h s)
      (λ n u. either_follows (is_zero n) (valued ls b u) (valued ls a u) u (valued_follows b ls h u) (valued_follows a ls h u))
  valued_follows (Assigned by v e) ls h s =
      used_follows v ls h (λ x at. assign (evaluate ls) by x at (valued ls e)) (λ x at. assign_follows (evaluate ls) (evaluate_follows ls h) by x at (valued ls e) (valued_follows e ls h)) s

pub read_follows : (ls : Nestings) → AllFollow ls → (r : Result Expression Refusal) → AlwaysFollows (read_value ls r)
read_follows ls h (Ok e) s = valued_follows e ls h s
read_follows ls h (Err refusal) s = refl

nestings_follow : (n : ℕ) → AllFollow (nestings_of n)
unfolding nestings_of
nestings_follow zero = tt
nestings_follow (suc n) = ((λ t s. read_follows (nestings_of n) (nestings_follow n) (expression n t) s), nestings_follow n)

pub text_of_follows : (n : ℕ) (t : Text) → AlwaysFollows (evaluate (nestings_of n) t)
text_of_follows n t s = evaluate_follows (nestings_of n) (nestings_follow n) t s

abbrev pub NextFollows : Next → Type 0
NextFollows next = (k : ℕ) (stack : Stack) → AlwaysFollows (next k stack)

module _ (n : ℕ) where
  pub executed_follows : (c : Instruction) (stack : Stack) (next : ℕ → Stack → Evaluation) → NextFollows next → (s : State) → Follows s (executed n c stack s next)
  executed_follows (i.Push z) stack next h s = h 0 (z ∷ stack) s
  executed_follows (i.Fetch p) stack next h s =
      then_follows (fetched (text_of n p) p.name (subscript p stack) s) (λ z u. next 0 (z ∷ without_subscript p stack) u) s (fetched_follows (text_of n p) (text_of_follows (min p.nesting_left n)) p.name (subscript p stack) s) (λ z u. h 0 (z ∷ without_subscript p stack) u)
  executed_follows (i.Load p) stack next h s =
      then_follows (fetched (text_of n p) p.name (subscript p stack) s) (λ z u. next 0 (z ∷ stack) u) s (fetched_follows (text_of n p) (text_of_follows (min p.nesting_left n)) p.name (subscript p stack) s) (λ z u. h 0 (z ∷ stack) u)
  executed_follows (i.Store p) stack next h s =
      then_follows (stored p.name (subscript p (below stack)) (top stack) s) (λ z u. next 0 (z ∷ without_subscript p (below stack)) u) s (stored_follows p.name (subscript p (below stack)) (top stack) s) (λ z u. h 0 (z ∷ without_subscript p (below stack)) u)
  executed_follows (i.Increment w d p) stack next h s =
      then_follows (increment (text_of n p) w d p.name (subscript p stack) s) (λ z u. next 0 (z ∷ without_subscript p stack) u) s (increment_follows (text_of n p) (text_of_follows (min p.nesting_left n)) w d p.name (subscript p stack) s) (λ z u. h 0 (z ∷ without_subscript p stack) u)
  executed_follows (i.Sign sign) stack next h s = h 0 (signed sign (top stack) ∷ below stack) s
  executed_follows (i.Operate o) stack next h s =
      then_follows (answered (operated o (top (below stack)) (top stack)) s) (λ z u. next 0 (z ∷ below (below stack)) u) s (answered_follows (operated o (top (below stack)) (top stack)) s) (λ z u. h 0 (z ∷ below (below stack)) u)
  executed_follows i.Raise stack next h s =
      then_follows (answered (raised (top (below stack)) (top stack)) s) (λ z u. next 0 (z ∷ below (below stack)) u) s (answered_follows (raised (top (below stack)) (top stack)) s) (λ z u. h 0 (z ∷ below (below stack)) u)
  executed_follows i.Discard stack next h s = h 0 (below stack) s
  executed_follows i.Truth stack next h s = h 0 (truth (not (is_zero (top stack))) ∷ below stack) s
  executed_follows (i.OrElse k) stack next h s =
      either_follows (is_zero (top stack)) (next 0 (below stack) s) (next k (pos 1 ∷ below stack) s) s (h 0 (below stack) s) (h k (pos 1 ∷ below stack) s)
  executed_follows (i.AndThen k) stack next h s =
      either_follows (is_zero (top stack)) (next k (pos 0 ∷ below stack) s) (next 0 (below stack) s) s (h k (pos 0 ∷ below stack) s) (h 0 (below stack) s)
  executed_follows (i.Unless k) stack next h s =
      either_follows (is_zero (top stack)) (next k (below stack) s) (next 0 (below stack) s) s (h k (below stack) s) (h 0 (below stack) s)
  executed_follows (i.Skip k) stack next h s = h k stack s

  pub run_follows : (code : Code) (k : ℕ) (stack : Stack) → AlwaysFollows (run n code k stack)
  unfolding run
  run_follows [] k stack s = refl
  run_follows (c ∷ code) zero stack s = executed_follows c stack (λ k more u. run n code k more u) (λ k more u. run_follows code k more u) s
  run_follows (c ∷ code) (suc k) stack s = run_follows code k stack s

pub text_value_follows : (n : ℕ) (t : Text) → AlwaysFollows (text_value n t)
unfolding text_value
text_value_follows n t s = read_follows (nestings_of n) (nestings_follow n) (expression n t) s

-- an evaluation gives no steps back
pub arithmetic_left : (t : Text) (s : State) → left_of (arithmetic t s) ≤ s.left
unfolding arithmetic
arithmetic_left t s = left_at_first (text_value 64 t s) s (text_value_follows 64 t s)
