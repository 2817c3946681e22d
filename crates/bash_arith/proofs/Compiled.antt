-- The instructions for an expression leave its value on the stack.
use Rattle.std.proofs.Common.{arith, ◌≡◌, ℕ, zero, suc, ◌+◌, ◌-◌, ◌≤◌, ℤ, pos, Bool, true, false, not, [], ◌∷◌, ◌++◌, length, Option, Some, None, Result, Ok, Err, refl, ap, sym, ◌∙◌, if◌then◌else◌}
use Rattle.std.proofs.lemmas.List.{append_assoc, append-nil, length-append}
use Rattle.std.proofs.Math.Nat.{min-eq_left}
use Rattle.eb_bytes.specs.Text.{Text}
use Rattle.arith_syntax.specs.declared.instruction.Instruction.{Instruction}
use Rattle.arith_syntax.specs.declared.instruction.Instruction.TheVariants as i
use Rattle.arith_syntax.specs.declared.operator.Operator.{Operator}
use Rattle.arith_syntax.specs.declared.operator.BinaryOperator.{BinaryOperator}
use Rattle.arith_syntax.specs.declared.operator.BinaryOperator.TheVariants.{Comma, Or, And, Both}
use Rattle.arith_syntax.specs.declared.operator.Increment.{Increment}
use Rattle.arith_syntax.specs.declared.operator.Timing.{Timing}
use Rattle.arith_syntax.specs.Expression.{Expression, Variable, Named, Element, Nothing, Constant, ValueOf, Opened, Signed, Incremented, Raised, Joined, Chosen, Assigned}
use Rattle.arith_syntax.specs.declared.error.Refusal.{Refusal}
use Rattle.arith_syntax.specs.Names.{without_quotes}
use Rattle.arith_syntax.specs.Reading.{expression}
use Rattle.arith_syntax.specs.Code.{Code, coded, ref_of, program, subscript_code, code_of}
use Rattle.bash_arith.specs.Machine.{Stack, run}
use Rattle.bash_arith.specs.Numbers.{is_zero, truth, operated, signed, raised}
use Rattle.bash_arith.specs.Outcome.{State, Outcome, Ended, Faulted, Changed, and_then}
use Rattle.bash_arith.specs.Value.{Nestings, Use, answered, assign, evaluate, fault_of, inside, joined, nestings_of, read_value, increment, text_value, used, valued}
use Rattle.bash_arith.specs.Variables.{fetched, stored}

-- what goes on with each number as `f` and then `g` do, goes on with the outcome so
chained : (o : Outcome) (f g h : ℤ → State → Outcome) → ((z : ℤ) (u : State) → h z u ≡ and_then (f z u) g) → and_then o h ≡ and_then (and_then o f) g
chained (Ended z u) f g h e = e z u
chained (Faulted fault u) f g h e = refl
chained (Changed s o) f g h e = ap (Changed s) (chained o f g h e)

same : (o : Outcome) (f g : ℤ → State → Outcome) → ((z : ℤ) (u : State) → f z u ≡ g z u) → and_then o f ≡ and_then o g
same (Ended z u) f g e = e z u
same (Faulted fault u) f g e = refl
same (Changed s o) f g e = ap (Changed s) (same o f g e)

branch : (b : Bool) (x y x' y' : Outcome) (g : ℤ → State → Outcome) → x ≡ and_then x' g → y ≡ and_then y' g → (if b then x else y) ≡ and_then (if b then x' else y') g
branch true x y x' y' g d e = d
branch false x y x' y' g d e = e

abbrev with_subscript : Option ℤ → Stack → Stack
with_subscript None stack = stack
with_subscript (Some at) stack = at ∷ stack

-- what `act` does and then `g`, `act'` does with this variable
abbrev Does : Variable → Use → Use → (ℤ → State → Outcome) → Type 0
Does (Named x) act act' g = (u : State) → act' x None u ≡ and_then (act x None u) g
Does (Element x e) act act' g = (at : ℤ) (u : State) → act' x (Some at) u ≡ and_then (act x (Some at) u) g

used_so : (ls : Nestings) (v : Variable) (act act' : Use) (g : ℤ → State → Outcome) (s : State) → Does v act act' g → used ls v act' s ≡ and_then (used ls v act s) g
unfolding used
used_so ls (Named x) act act' g s e = e s
used_so ls (Element x f) act act' g s e = chained (valued ls f s) (λ at u. act x (Some at) u) g (λ at u. act' x (Some at) u) e

pred_is : (m : ℕ) → m ≡ suc m - 1
pred_is m = omega arith

inside_is : (m : ℕ) → inside (nestings_of m) ≡ nestings_of (m - 1)
unfolding nestings_of
inside_is zero = refl
inside_is (suc m) = ap nestings_of (pred_is m)

module _ (n : ℕ) where
  -- leaving out as many instructions as stand there
  skipped : (xs code : Code) (stack : Stack) (s : State) → run n (xs ++ code) (length xs) stack s ≡ run n code 0 stack s
  unfolding run
  skipped [] code stack s = refl
  skipped (x ∷ xs) code stack s = skipped xs code stack s

  skipped_more : (xs : Code) (x : Instruction) (code : Code) (stack : Stack) (s : State) → run n (xs ++ x ∷ code) (length xs + 1) stack s ≡ run n code 0 stack s
  skipped_more xs x code stack s =
      ap (λ c. run n c (length xs + 1) stack s) (sym (append_assoc xs (x ∷ []) code))
      ∙ ap (λ k. run n ((xs ++ x ∷ []) ++ code) k stack s) (sym (length-append xs (x ∷ [])))
      ∙ skipped (xs ++ x ∷ []) code stack s

  -- that the instructions for an expression do what its value does
  abbrev Compiles : Expression → Type 0
  Compiles e = (m : ℕ) → m ≤ n → (code : Code) (stack : Stack) (s : State) → run n (code_of m e ++ code) 0 stack s ≡ and_then (valued (nestings_of m) e s) (λ z u. run n code 0 (z ∷ stack) u)

  abbrev next : Code → Stack → ℤ → State → Outcome
  next code stack z u = run n code 0 (z ∷ stack) u

  fetches : (v : Variable) (m : ℕ) → m ≤ n → (code : Code) (stack : Stack) → Does v (fetched (evaluate (nestings_of m))) (λ x at u. run n (i.Fetch (ref_of m v) ∷ code) 0 (with_subscript at stack) u) (next code stack)
  unfolding run
  fetches (Named x) m h code stack = λ u. ap (λ k. and_then (fetched (evaluate (nestings_of k)) x None u) (next code stack)) (min-eq_left h)
  fetches (Element x e) m h code stack = λ at u. ap (λ k. and_then (fetched (evaluate (nestings_of k)) x (Some at) u) (next code stack)) (min-eq_left h)

  increments : (w : Timing) (d : Increment) (v : Variable) (m : ℕ) → m ≤ n → (code : Code) (stack : Stack) → Does v (increment (evaluate (nestings_of m)) w d) (λ x at u. run n (i.Increment w d (ref_of m v) ∷ code) 0 (with_subscript at stack) u) (next code stack)
  unfolding run
  increments w d (Named x) m h code stack = λ u. ap (λ k. and_then (increment (evaluate (nestings_of k)) w d x None u) (next code stack)) (min-eq_left h)
  increments w d (Element x e) m h code stack = λ at u. ap (λ k. and_then (increment (evaluate (nestings_of k)) w d x (Some at) u) (next code stack)) (min-eq_left h)

  -- the right side of an assignment, and what is done with its number
  plainly : (v : Variable) (e : Expression) → Compiles e → (m : ℕ) → m ≤ n → (code : Code) (stack : Stack) → Does v (λ x at. assign (evaluate (nestings_of m)) None x at (valued (nestings_of m) e)) (λ x at u. run n (code_of m e ++ i.Store (ref_of m v) ∷ code) 0 (with_subscript at stack) u) (next code stack)
  unfolding run
  plainly (Named x) e c m h code stack = λ u.
      c m h (i.Store (ref_of m (Named x)) ∷ code) stack u
      ∙ chained (valued (nestings_of m) e u) (λ r w. stored x None r w) (next code stack) (λ r w. run n (i.Store (ref_of m (Named x)) ∷ code) 0 (r ∷ stack) w) (λ r w. refl)
  plainly (Element x f) e c m h code stack = λ at u.
      c m h (i.Store (ref_of m (Element x f)) ∷ code) (at ∷ stack) u
      ∙ chained (valued (nestings_of m) e u) (λ r w. stored x (Some at) r w) (next code stack) (λ r w. run n (i.Store (ref_of m (Element x f)) ∷ code) 0 (r ∷ at ∷ stack) w) (λ r w. refl)

  -- the same after what the variable means and an operator
  operating : (o : Operator) (v : Variable) (e : Expression) → Compiles e → (m : ℕ) → m ≤ n → (code : Code) (stack : Stack) → Does v (λ x at. assign (evaluate (nestings_of m)) (Some o) x at (valued (nestings_of m) e)) (λ x at u. run n (i.Load (ref_of m v) ∷ (code_of m e ++ i.Operate o ∷ i.Store (ref_of m v) ∷ code)) 0 (with_subscript at stack) u) (next code stack)
  unfolding run
  operating o (Named x) e c m h code stack = λ u.
      ap (λ k. and_then (fetched (evaluate (nestings_of k)) x None u) (λ z w. run n (code_of m e ++ i.Operate o ∷ i.Store (ref_of m (Named x)) ∷ code) 0 (z ∷ stack) w)) (min-eq_left h)
      ∙ chained (fetched (evaluate (nestings_of m)) x None u) (λ l q. and_then (valued (nestings_of m) e q) (λ r p. and_then (answered (operated o l r) p) (λ k w. stored x None k w))) (next code stack) (λ z w. run n (code_of m e ++ i.Operate o ∷ i.Store (ref_of m (Named x)) ∷ code) 0 (z ∷ stack) w)
      (λ l q. c m h (i.Operate o ∷ i.Store (ref_of m (Named x)) ∷ code) (l ∷ stack) q
      ∙ chained (valued (nestings_of m) e q) (λ r p. and_then (answered (operated o l r) p) (λ k w. stored x None k w)) (next code stack) (λ r p. run n (i.Operate o ∷ i.Store (ref_of m (Named x)) ∷ code) 0 (r ∷ l ∷ stack) p)
      (λ r p. chained (answered (operated o l r) p) (λ k w. stored x None k w) (next code stack) (λ k w. run n (i.Store (ref_of m (Named x)) ∷ code) 0 (k ∷ stack) w) (λ k w. refl)))
  operating o (Element x f) e c m h code stack = λ at u.
      ap (λ k. and_then (fetched (evaluate (nestings_of k)) x (Some at) u) (λ z w. run n (code_of m e ++ i.Operate o ∷ i.Store (ref_of m (Element x f)) ∷ code) 0 (z ∷ at ∷ stack) w)) (min-eq_left h)
      ∙ chained (fetched (evaluate (nestings_of m)) x (Some at) u) (λ l q. and_then (valued (nestings_of m) e q) (λ r p. and_then (answered (operated o l r) p) (λ k w. stored x (Some at) k w))) (next code stack) (λ z w. run n (code_of m e ++ i.Operate o ∷ i.Store (ref_of m (Element x f)) ∷ code) 0 (z ∷ at ∷ stack) w)
      (λ l q. c m h (i.Operate o ∷ i.Store (ref_of m (Element x f)) ∷ code) (l ∷ at ∷ stack) q
      ∙ chained (valued (nestings_of m) e q) (λ r p. and_then (answered (operated o l r) p) (λ k w. stored x (Some at) k w)) (next code stack) (λ r p. run n (i.Operate o ∷ i.Store (ref_of m (Element x f)) ∷ code) 0 (r ∷ l ∷ at ∷ stack) p)
      (λ r p. chained (answered (operated o l r) p) (λ k w. stored x (Some at) k w) (next code stack) (λ k w. run n (i.Store (ref_of m (Element x f)) ∷ code) 0 (k ∷ at ∷ stack) w) (λ k w. refl)))

  -- two sides and the operator between them
  joins : (j : BinaryOperator) (left right : Expression) → Compiles left → Compiles right → Compiles (Joined j left right)
  unfolding run code_of valued
  joins Comma left right c d m h code stack s =
      ap (λ k. run n k 0 stack s) (append_assoc (code_of m left) (i.Discard ∷ code_of m right) code)
      ∙ c m h (i.Discard ∷ (code_of m right ++ code)) stack s
      ∙ chained (valued (nestings_of m) left s) (λ l u. valued (nestings_of m) right u) (next code stack) (λ l u. run n (code_of m right ++ code) 0 stack u) (λ l u. d m h code stack u)
  joins Or left right c d m h code stack s =
      ap (λ k. run n k 0 stack s) (append_assoc (code_of m left ++ i.OrElse (length (code_of m right) + 1) ∷ code_of m right) (i.Truth ∷ []) code)
      ∙ ap (λ k. run n k 0 stack s) (append_assoc (code_of m left) (i.OrElse (length (code_of m right) + 1) ∷ code_of m right) (i.Truth ∷ code))
      ∙ c m h (i.OrElse (length (code_of m right) + 1) ∷ (code_of m right ++ i.Truth ∷ code)) stack s
      ∙ chained (valued (nestings_of m) left s) (λ l u. joined Or l (valued (nestings_of m) right) u) (next code stack) (λ l u. run n (i.OrElse (length (code_of m right) + 1) ∷ (code_of m right ++ i.Truth ∷ code)) 0 (l ∷ stack) u)
      (λ l u. branch (is_zero l) (run n (code_of m right ++ i.Truth ∷ code) 0 stack u) (run n (code_of m right ++ i.Truth ∷ code) (length (code_of m right) + 1) (pos 1 ∷ stack) u) (and_then (valued (nestings_of m) right u) (λ r w. Ended (truth (not (is_zero r))) w)) (Ended (pos 1) u) (next code stack)
      (d m h (i.Truth ∷ code) stack u ∙ chained (valued (nestings_of m) right u) (λ r w. Ended (truth (not (is_zero r))) w) (next code stack) (λ r w. run n (i.Truth ∷ code) 0 (r ∷ stack) w) (λ r w. refl))
      (skipped_more (code_of m right) i.Truth code (pos 1 ∷ stack) u))
  joins And left right c d m h code stack s =
      ap (λ k. run n k 0 stack s) (append_assoc (code_of m left ++ i.AndThen (length (code_of m right) + 1) ∷ code_of m right) (i.Truth ∷ []) code)
      ∙ ap (λ k. run n k 0 stack s) (append_assoc (code_of m left) (i.AndThen (length (code_of m right) + 1) ∷ code_of m right) (i.Truth ∷ code))
      ∙ c m h (i.AndThen (length (code_of m right) + 1) ∷ (code_of m right ++ i.Truth ∷ code)) stack s
      ∙ chained (valued (nestings_of m) left s) (λ l u. joined And l (valued (nestings_of m) right) u) (next code stack) (λ l u. run n (i.AndThen (length (code_of m right) + 1) ∷ (code_of m right ++ i.Truth ∷ code)) 0 (l ∷ stack) u)
      (λ l u. branch (is_zero l) (run n (code_of m right ++ i.Truth ∷ code) (length (code_of m right) + 1) (pos 0 ∷ stack) u) (run n (code_of m right ++ i.Truth ∷ code) 0 stack u) (Ended (pos 0) u) (and_then (valued (nestings_of m) right u) (λ r w. Ended (truth (not (is_zero r))) w)) (next code stack)
      (skipped_more (code_of m right) i.Truth code (pos 0 ∷ stack) u)
      (d m h (i.Truth ∷ code) stack u ∙ chained (valued (nestings_of m) right u) (λ r w. Ended (truth (not (is_zero r))) w) (next code stack) (λ r w. run n (i.Truth ∷ code) 0 (r ∷ stack) w) (λ r w. refl)))
  joins (Both o) left right c d m h code stack s =
      ap (λ k. run n k 0 stack s) (append_assoc (code_of m left ++ code_of m right) (i.Operate o ∷ []) code)
      ∙ ap (λ k. run n k 0 stack s) (append_assoc (code_of m left) (code_of m right) (i.Operate o ∷ code))
      ∙ c m h (code_of m right ++ i.Operate o ∷ code) stack s
      ∙ chained (valued (nestings_of m) left s) (λ l u. joined (Both o) l (valued (nestings_of m) right) u) (next code stack) (λ l u. run n (code_of m right ++ i.Operate o ∷ code) 0 (l ∷ stack) u)
      (λ l u. d m h (i.Operate o ∷ code) (l ∷ stack) u
      ∙ chained (valued (nestings_of m) right u) (λ r w. answered (operated o l r) w) (next code stack) (λ r w. run n (i.Operate o ∷ code) 0 (r ∷ l ∷ stack) w) (λ r w. refl))

  raises : (base e : Expression) → Compiles base → Compiles e → Compiles (Raised base e)
  unfolding run code_of valued
  raises base e c d m h code stack s =
      ap (λ k. run n k 0 stack s) (append_assoc (code_of m base ++ code_of m e) (i.Raise ∷ []) code)
      ∙ ap (λ k. run n k 0 stack s) (append_assoc (code_of m base) (code_of m e) (i.Raise ∷ code))
      ∙ c m h (code_of m e ++ i.Raise ∷ code) stack s
      ∙ chained (valued (nestings_of m) base s) (λ b u. and_then (valued (nestings_of m) e u) (λ z v. answered (raised b z) v)) (next code stack) (λ b u. run n (code_of m e ++ i.Raise ∷ code) 0 (b ∷ stack) u)
      (λ b u. d m h (i.Raise ∷ code) (b ∷ stack) u
      ∙ chained (valued (nestings_of m) e u) (λ z v. answered (raised b z) v) (next code stack) (λ z v. run n (i.Raise ∷ code) 0 (z ∷ b ∷ stack) v) (λ z v. refl))

  chooses : (q a b : Expression) → Compiles q → Compiles a → Compiles b → Compiles (Chosen q a b)
  unfolding run code_of valued
  chooses q a b c d e m h code stack s =
      ap (λ k. run n k 0 stack s) (append_assoc (code_of m q ++ i.Unless (length (code_of m a) + 1) ∷ code_of m a) (i.Skip (length (code_of m b)) ∷ code_of m b) code)
      ∙ ap (λ k. run n k 0 stack s) (append_assoc (code_of m q) (i.Unless (length (code_of m a) + 1) ∷ code_of m a) (i.Skip (length (code_of m b)) ∷ (code_of m b ++ code)))
      ∙ c m h (i.Unless (length (code_of m a) + 1) ∷ (code_of m a ++ i.Skip (length (code_of m b)) ∷ (code_of m b ++ code))) stack s
      ∙ chained (valued (nestings_of m) q s) (λ z u. if is_zero z then valued (nestings_of m) b u else valued (nestings_of m) a u) (next code stack) (λ z u. run n (i.Unless (length (code_of m a) + 1) ∷ (code_of m a ++ i.Skip (length (code_of m b)) ∷ (code_of m b ++ code))) 0 (z ∷ stack) u)
      (λ z u. branch (is_zero z) (run n (code_of m a ++ i.Skip (length (code_of m b)) ∷ (code_of m b ++ code)) (length (code_of m a) + 1) stack u) (run n (code_of m a ++ i.Skip (length (code_of m b)) ∷ (code_of m b ++ code)) 0 stack u) (valued (nestings_of m) b u) (valued (nestings_of m) a u) (next code stack)
      (skipped_more (code_of m a) (i.Skip (length (code_of m b))) (code_of m b ++ code) stack u ∙ e m h code stack u)
      (d m h (i.Skip (length (code_of m b)) ∷ (code_of m b ++ code)) stack u
      ∙ same (valued (nestings_of m) a u) (λ v w. run n (i.Skip (length (code_of m b)) ∷ (code_of m b ++ code)) 0 (v ∷ stack) w) (next code stack) (λ v w. skipped (code_of m b) code (v ∷ stack) w)))

  less : (m : ℕ) → m ≤ n → m - 1 ≤ n
  less m h = omega arith

  mutual
    unfolding run code_of valued

    placed : (v : Variable) (m : ℕ) → m ≤ n → (rest : Code) (stack : Stack) (s : State) → run n (subscript_code m v ++ rest) 0 stack s ≡ used (nestings_of m) v (λ x at u. run n rest 0 (with_subscript at stack) u) s
    placed (Named x) m h rest stack s = refl
    placed (Element x e) m h rest stack s = compiled e m h rest stack s

    compiled : (e : Expression) → Compiles e
    compiled Nothing m h code stack s = refl
    compiled (Constant z) m h code stack s = refl
    compiled (ValueOf v) m h code stack s =
        ap (λ k. run n k 0 stack s) (append_assoc (subscript_code m v) (i.Fetch (ref_of m v) ∷ []) code)
        ∙ placed v m h (i.Fetch (ref_of m v) ∷ code) stack s
        ∙ used_so (nestings_of m) v (fetched (evaluate (nestings_of m))) (λ x at u. run n (i.Fetch (ref_of m v) ∷ code) 0 (with_subscript at stack) u) (next code stack) s (fetches v m h code stack)
    compiled (Opened e) m h code stack s =
        compiled e (m - 1) (less m h) code stack s
        ∙ ap (λ k. and_then (valued k e s) (next code stack)) (sym (inside_is m))
    compiled (Signed sign e) m h code stack s =
        ap (λ k. run n k 0 stack s) (append_assoc (code_of m e) (i.Sign sign ∷ []) code)
        ∙ compiled e m h (i.Sign sign ∷ code) stack s
        ∙ chained (valued (nestings_of m) e s) (λ z u. Ended (signed sign z) u) (next code stack) (λ z u. run n (i.Sign sign ∷ code) 0 (z ∷ stack) u) (λ z u. refl)
    compiled (Incremented w d v) m h code stack s =
        ap (λ k. run n k 0 stack s) (append_assoc (subscript_code m v) (i.Increment w d (ref_of m v) ∷ []) code)
        ∙ placed v m h (i.Increment w d (ref_of m v) ∷ code) stack s
        ∙ used_so (nestings_of m) v (increment (evaluate (nestings_of m)) w d) (λ x at u. run n (i.Increment w d (ref_of m v) ∷ code) 0 (with_subscript at stack) u) (next code stack) s (increments w d v m h code stack)
    compiled (Raised base e) m h code stack s = raises base e (compiled base) (compiled e) m h code stack s
    compiled (Joined j left right) m h code stack s = joins j left right (compiled left) (compiled right) m h code stack s
    compiled (Chosen q a b) m h code stack s = chooses q a b (compiled q) (compiled a) (compiled b) m h code stack s
    compiled (Assigned None v e) m h code stack s =
        ap (λ k. run n k 0 stack s) (append_assoc (subscript_code m v) (code_of m e ++ i.Store (ref_of m v) ∷ []) code)
        ∙ ap (λ k. run n (subscript_code m v ++ k) 0 stack s) (append_assoc (code_of m e) (i.Store (ref_of m v) ∷ []) code)
        ∙ placed v m h (code_of m e ++ i.Store (ref_of m v) ∷ code) stack s
        ∙ used_so (nestings_of m) v (λ x at. assign (evaluate (nestings_of m)) None x at (valued (nestings_of m) e)) (λ x at u. run n (code_of m e ++ i.Store (ref_of m v) ∷ code) 0 (with_subscript at stack) u) (next code stack) s (plainly v e (compiled e) m h code stack)
    compiled (Assigned (Some o) v e) m h code stack s =
        ap (λ k. run n k 0 stack s) (append_assoc (subscript_code m v) (i.Load (ref_of m v) ∷ code_of m e ++ i.Operate o ∷ i.Store (ref_of m v) ∷ []) code)
        ∙ ap (λ k. run n (subscript_code m v ++ k) 0 stack s) (append_assoc (i.Load (ref_of m v) ∷ code_of m e) (i.Operate o ∷ i.Store (ref_of m v) ∷ []) code)
        ∙ placed v m h (i.Load (ref_of m v) ∷ (code_of m e ++ i.Operate o ∷ i.Store (ref_of m v) ∷ code)) stack s
        ∙ used_so (nestings_of m) v (λ x at. assign (evaluate (nestings_of m)) (Some o) x at (valued (nestings_of m) e)) (λ x at u. run n (i.Load (ref_of m v) ∷ (code_of m e ++ i.Operate o ∷ i.Store (ref_of m v) ∷ code)) 0 (with_subscript at stack) u) (next code stack) s (operating o v e (compiled e) m h code stack)

same_le : (k : ℕ) → k ≤ k
same_le k = omega arith

never : {r : Refusal} {code : Code} → ◌≡◌ {A = Result Code Refusal} (Err r) (Ok code) → ⊥
never h = cc

ok_is : {a b : Code} → ◌≡◌ {A = Result Code Refusal} (Ok a) (Ok b) → a ≡ b
ok_is h = cc

err_is : {a b : Refusal} → ◌≡◌ {A = Result Code Refusal} (Err a) (Err b) → a ≡ b
err_is h = cc

ended : (o : Outcome) → and_then o (λ z u. Ended z u) ≡ o
ended (Ended z u) = refl
ended (Faulted fault u) = refl
ended (Changed s o) = ap (Changed s) (ended o)

module _ (n : ℕ) (t : Text) (s : State) where
  of_code : (r : Result Expression Refusal) (code : Code) → coded n r ≡ Ok code → read_value (nestings_of n) r s ≡ run n code 0 [] s
  unfolding run
  of_code (Ok e) code h =
      sym (ended (valued (nestings_of n) e s))
      ∙ sym (compiled n e n (same_le n) [] [] s)
      ∙ ap (λ c. run n c 0 [] s) (append-nil (code_of n e))
      ∙ ap (λ c. run n c 0 [] s) (ok_is h)
  of_code (Err refusal) code h = absurd (never h)

  of_refusal : (r : Result Expression Refusal) (refusal : Refusal) → coded n r ≡ Err refusal → read_value (nestings_of n) r s ≡ Faulted (fault_of refusal) s
  of_refusal (Ok e) refusal h = absurd (never (sym h))
  of_refusal (Err given) refusal h = ap (λ f. Faulted (fault_of f) s) (err_is h)

  -- a text's value is what its instructions leave on top
  pub text_runs : (code : Code) → program n (without_quotes t) ≡ Ok code → text_value n t s ≡ run n code 0 [] s
  unfolding text_value program expression
  text_runs code h = of_code (expression n t) code h

  pub text_is_refused : (refusal : Refusal) → program n (without_quotes t) ≡ Err refusal → text_value n t s ≡ Faulted (fault_of refusal) s
  unfolding text_value program expression
  text_is_refused refusal h = of_refusal (expression n t) refusal h
