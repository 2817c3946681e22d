-- An evaluation leaves the frames that are open.
use Rattle.std.proofs.Common.{◌≡◌, ℕ, zero, suc, ℤ, pos, Bool, true, false, not, [], ◌∷◌, Option, Some, None, Result, Ok, Err, unwrap_or, refl, ◌∙◌, if◌then◌else◌}
use Rattle.eb_bytes.specs.Text.{Text}
use Rattle.arith_syntax.specs.Expression.{Expression, Variable, Named, Element, Nothing, Constant, ValueOf, Opened, Signed, Incremented, Raised, Joined, Chosen, Assigned}
use Rattle.arith_syntax.specs.Reading.{expression}
use Rattle.arith_syntax.specs.declared.error.Refusal.{Refusal}
use Rattle.arith_syntax.specs.declared.operator.BinaryOperator.{BinaryOperator}
use Rattle.arith_syntax.specs.declared.operator.BinaryOperator.TheVariants.{Comma, Or, And, Both}
use Rattle.arith_syntax.specs.declared.operator.Increment.{Increment}
use Rattle.arith_syntax.specs.declared.operator.Operator.{Operator}
use Rattle.arith_syntax.specs.declared.operator.Timing.{Timing}
use Rattle.bash_arith.specs.Numbers.{incremented, is_zero, number_text, operated, raised, signed, truth}
use Rattle.bash_arith.specs.Outcome.{State, Outcome, Ended, Faulted, Changed, and_then, last, paid_from}
use Rattle.bash_arith.specs.Value.{Evaluation, Nestings, Use, answered, arithmetic, assign, evaluate, increment, increment_value, inside, joined, nestings_of, read_value, text_value, used, valued}
use Rattle.bash_arith.specs.Variables.{after_assignment, evaluated_text, fetched, stored}
use Rattle.bash_arith.specs.declared.error.ArithErr.{ArithErr}
use Rattle.shell_vars.specs.Calls as call
use Rattle.shell_vars.specs.Refused.{is_refused}
use Rattle.shell_vars.specs.Store.{Store, kinds}
use Rattle.shell_vars.specs.declared.error.VarErr.{VarErr}
use Rattle.word_meaning.proofs.Frames.{SameFrames, assign_same}

-- it ends with the same frames as this state has
abbrev pub EndsSame : State → Outcome → Type 0
EndsSame s (Ended n u) = kinds u.store ≡ kinds s.store
EndsSame s (Faulted fault u) = kinds u.store ≡ kinds s.store
EndsSame s (Changed u o) = EndsSame s o

abbrev AlwaysSame : Evaluation → Type 0
AlwaysSame f = (s : State) → EndsSame s (f s)

-- from a state with the same frames
from_same : (s u : State) (o : Outcome) → kinds u.store ≡ kinds s.store → EndsSame u o → EndsSame s o
from_same s u (Ended n w) e h = h ∙ e
from_same s u (Faulted fault w) e h = h ∙ e
from_same s u (Changed w o) e h = from_same s u o e h

then_same : (o : Outcome) (f : ℤ → Evaluation) (s : State) → EndsSame s o → ((n : ℤ) → AlwaysSame (f n)) → EndsSame s (and_then o f)
then_same (Ended n u) f s h g = from_same s u (f n u) h (g n u)
then_same (Faulted fault u) f s h g = h
then_same (Changed u o) f s h g = then_same o f s h g

either_same : (b : Bool) (x y : Outcome) (s : State) → EndsSame s x → EndsSame s y → EndsSame s (if b then x else y)
either_same true x y s h g = h
either_same false x y s h g = g

-- ---- variables

paid_same : (n : ℕ) (s : State) (f : Evaluation) → AlwaysSame f → EndsSame s (paid_from n s f)
paid_same zero s f h = refl
paid_same (suc n) s f h = from_same s (record s { left = n }) (f (record s { left = n })) refl (h (record s { left = n }))

text_same : (ev : Text → Evaluation) → ((t : Text) → AlwaysSame (ev t)) → (x : Text) (r : Result (Option Text) VarErr) → AlwaysSame (evaluated_text ev x r)
text_same ev h x (Ok t) s = paid_same s.left s (ev (unwrap_or t [])) (h (unwrap_or t []))
text_same ev h x (Err refused) s = refl

fetched_same : (ev : Text → Evaluation) → ((t : Text) → AlwaysSame (ev t)) → (x : Text) (at : Option ℤ) → AlwaysSame (fetched ev x at)
fetched_same ev h x at s =
    either_same (is_refused x) _ (evaluated_text ev x (call.element x at s.store) s) s refl (text_same ev h x (call.element x at s.store) s)

after_same : (x : Text) (n : ℤ) (r : Result Store VarErr) (s : State) → SameFrames s.store r → EndsSame s (after_assignment x n r s)
after_same x n (Ok store) s h = h
after_same x n (Err refused) s h = refl

stored_same : (x : Text) (at : Option ℤ) (n : ℤ) → AlwaysSame (stored x at n)
stored_same x at n s = after_same x n (call.assign x at (number_text n) s.store) s (assign_same x at (number_text n) s.store)

-- ---- operators

answered_same : (r : Result ℤ ArithErr) → AlwaysSame (answered r)
answered_same (Ok n) s = refl
answered_same (Err fault) s = refl

increment_same : (ev : Text → Evaluation) → ((t : Text) → AlwaysSame (ev t)) → (w : Timing) (d : Increment) (x : Text) (at : Option ℤ) → AlwaysSame (increment ev w d x at)
increment_same ev h w d x at s =
    then_same (fetched ev x at s) (λ n u. and_then (stored x at (incremented d n) u) (λ m v. Ended (increment_value w n m) v)) s (fetched_same ev h x at s)
    (λ n u. then_same (stored x at (incremented d n) u) (λ m v. Ended (increment_value w n m) v) u (stored_same x at (incremented d n) u) (λ m v. refl))

joined_same : (j : BinaryOperator) (l : ℤ) (right : Evaluation) → AlwaysSame right → AlwaysSame (joined j l right)
joined_same Comma l right h s = h s
joined_same Or l right h s =
    either_same (is_zero l) (and_then (right s) (λ r u. Ended (truth (not (is_zero r))) u)) (Ended (pos 1) s) s
    (then_same (right s) (λ r u. Ended (truth (not (is_zero r))) u) s (h s) (λ r u. refl)) refl
joined_same And l right h s =
    either_same (is_zero l) (Ended (pos 0) s) (and_then (right s) (λ r u. Ended (truth (not (is_zero r))) u)) s refl
    (then_same (right s) (λ r u. Ended (truth (not (is_zero r))) u) s (h s) (λ r u. refl))
joined_same (Both o) l right h s = then_same (right s) (λ r u. answered (operated o l r) u) s (h s) (λ r u. answered_same (operated o l r) u)

assign_op_same : (ev : Text → Evaluation) → ((t : Text) → AlwaysSame (ev t)) → (by : Option Operator) (x : Text) (at : Option ℤ) (right : Evaluation) → AlwaysSame right → AlwaysSame (assign ev by x at right)
assign_op_same ev h None x at right g s = then_same (right s) (λ r u. stored x at r u) s (g s) (λ r u. stored_same x at r u)
assign_op_same ev h (Some o) x at right g s =
    then_same (fetched ev x at s) (λ l u. and_then (right u) (λ r v. and_then (answered (operated o l r) v) (λ n w. stored x at n w))) s (fetched_same ev h x at s)
    (λ l u. then_same (right u) (λ r v. and_then (answered (operated o l r) v) (λ n w. stored x at n w)) u (g u)
    (λ r v. then_same (answered (operated o l r) v) (λ n w. stored x at n w) v (answered_same (operated o l r) v) (λ n w. stored_same x at n w)))

-- ---- expressions

abbrev AllSame : Nestings → Type 0
AllSame [] = Unit {0}
AllSame (l ∷ ls) = ((t : Text) → AlwaysSame (l t)) × AllSame ls

evaluate_same : (ls : Nestings) → AllSame ls → (t : Text) → AlwaysSame (evaluate ls t)
evaluate_same [] h t s = refl
evaluate_same (l ∷ ls) h t s = h.0 t s

inside_same : (ls : Nestings) → AllSame ls → AllSame (inside ls)
inside_same [] h = tt
inside_same (l ∷ ls) h = h.1

mutual
  unfolding used valued

  used_same : (v : Variable) (ls : Nestings) → AllSame ls → (act : Use) → ((x : Text) (at : Option ℤ) → AlwaysSame (act x at)) → AlwaysSame (used ls v act)
  used_same (Named x) ls h act g s = g x None s
  used_same (Element x e) ls h act g s = then_same (valued ls e s) (λ at u. act x (Some at) u) s (valued_same e ls h s) (λ at u. g x (Some at) u)

  valued_same : (e : Expression) (ls : Nestings) → AllSame ls → AlwaysSame (valued ls e)
  valued_same Nothing ls h s = refl
  valued_same (Constant n) ls h s = refl
  valued_same (ValueOf v) ls h s = used_same v ls h (fetched (evaluate ls)) (fetched_same (evaluate ls) (evaluate_same ls h)) s
  valued_same (Opened e) ls h s = valued_same e (inside ls) (inside_same ls h) s
  valued_same (Signed sign e) ls h s = then_same (valued ls e s) (λ n u. Ended (signed sign n) u) s (valued_same e ls h s) (λ n u. refl)
  valued_same (Incremented w d v) ls h s = used_same v ls h (increment (evaluate ls) w d) (increment_same (evaluate ls) (evaluate_same ls h) w d) s
  valued_same (Raised base e) ls h s =
      then_same (valued ls base s) (λ b u. and_then (valued ls e u) (λ n v. answered (raised b n) v)) s (valued_same base ls h s)
      (λ b u. then_same (valued ls e u) (λ n v. answered (raised b n) v) u (valued_same e ls h u) (λ n v. answered_same (raised b n) v))
  valued_same (Joined j left right) ls h s =
      then_same (valued ls left s) (λ l u. joined j l (valued ls right) u) s (valued_same left ls h s) (λ l u. joined_same j l (valued ls right) (valued_same right ls h) u)
  valued_same (Chosen c a b) ls h s =
      then_same (valued ls c s) (λ n u. if is_zero n then valued ls b u else valued ls a u) s (valued_same c ls h s)
      (λ n u. either_same (is_zero n) (valued ls b u) (valued ls a u) u (valued_same b ls h u) (valued_same a ls h u))
  valued_same (Assigned by v e) ls h s =
      used_same v ls h (λ x at. assign (evaluate ls) by x at (valued ls e)) (λ x at. assign_op_same (evaluate ls) (evaluate_same ls h) by x at (valued ls e) (valued_same e ls h)) s

read_same : (ls : Nestings) → AllSame ls → (r : Result Expression Refusal) → AlwaysSame (read_value ls r)
read_same ls h (Ok e) s = valued_same e ls h s
read_same ls h (Err refusal) s = refl

nestings_same : (n : ℕ) → AllSame (nestings_of n)
unfolding nestings_of
nestings_same zero = tt
nestings_same (suc n) = ((λ t s. read_same (nestings_of n) (nestings_same n) (expression n t) s), nestings_same n)

ends_last : (s : State) (o : Outcome) → EndsSame s o → EndsSame s (last o)
ends_last s (Ended n u) h = h
ends_last s (Faulted fault u) h = h
ends_last s (Changed u o) h = ends_last s o h

pub arithmetic_same : (t : Text) (s : State) → EndsSame s (last (arithmetic t s))
unfolding arithmetic text_value
arithmetic_same t s = ends_last s (arithmetic t s) (read_same (nestings_of 64) (nestings_same 64) (expression 64 t) s)
