-- How the rules read, from what was read of their parts.
use Rattle.std.proofs.Common.{◌≡◌, ◌≢◌, ◌∙◌, ℕ, zero, suc, ◌+◌, ◌-◌, ◌≤◌, ℤ, pos, ◌==◌, Bool, true, false, [], ◌∷◌, ◌++◌, length, take, drop, get_or, Option, Some, None, Result, Ok, Err, refl, ap, subst, sym, arith, append_assoc, if◌then◌else◌}
use Rattle.std.proofs.lemmas.List.{append-nil}
use Rattle.std.proofs.lemmas.Bool.Decides.{nat_tests}
use Rattle.arith_syntax.specs.Constants.{constant_len, constant_of}
use Rattle.eb_bytes.specs.Text.{Text}
use Rattle.arith_syntax.specs.declared.instruction.Instruction.{Instruction}
use Rattle.arith_syntax.specs.declared.instruction.Instruction.TheVariants as i
use Rattle.arith_syntax.specs.declared.instruction.VariableRef.{VariableRef}
use Rattle.arith_syntax.specs.declared.operator.Increment.{Increment}
use Rattle.arith_syntax.specs.declared.operator.Operator.{Operator}
use Rattle.arith_syntax.specs.declared.operator.Sign.{Sign}
use Rattle.arith_syntax.specs.declared.operator.Symbol.{Symbol}
use Rattle.arith_syntax.specs.declared.operator.Symbol.TheVariants as symbol
use Rattle.arith_syntax.specs.declared.operator.Timing.TheVariants.{Post, Pre}
use Rattle.arith_syntax.specs.declared.reader.ExpressionRead.{ExpressionRead}
use Rattle.arith_syntax.specs.declared.error.ReadErr.{ReadErr}
use Rattle.arith_syntax.specs.declared.error.ReadErr.TheVariants.{Refused}
use Rattle.arith_syntax.specs.declared.error.Refusal.{Refusal}
use Rattle.arith_syntax.specs.declared.error.Refusal.TheVariants.{Syntax, Nesting}
use Rattle.arith_syntax.specs.declared.rule.Rule.{Rule}
use Rattle.arith_syntax.specs.declared.rule.Rule.TheVariants.{Whole, Subscript, Assignment, Conditional, Power, Operand, PreIncrement}
use Rattle.arith_syntax.specs.Code.{Code, assigning, code_of, ref_of, program, subscript_code}
use Rattle.arith_syntax.specs.Expression.{Expression, Variable, Named, Element, Nothing, Constant, ValueOf, Opened, Signed, Incremented, Raised, Joined, Chosen, Assigned}
use Rattle.arith_syntax.specs.Names.{after_blanks, begins_name, name_at}
use Rattle.byte_class.specs.Class.{is_digit}
use Rattle.arith_syntax.specs.Putting.{Puts, PutsVariable, Reads, chosen, inner, is_value_of, loading, past, past_assign, past_byte, past_colon, past_power, past_question, side, storing}
use Rattle.arith_syntax.specs.Reading.{Reading, Rules, and_then, assigned, assignment, assignment_after, assignment_by, begins, after, binary, by_rule, constant, constant_by, choice_after, choice_by, conditional, ends, joined, variable_value, opened, operand, otherwise, otherwise_by, power, power_after, power_by, primary, reading, signed, pre_incremented, subscript, variable, variable_after, variable_of, whole}
use Rattle.arith_syntax.specs.Symbols.{first_of, signs, pre_increment, post_increment, symbol_at}

-- ---- readings

pub reads_as : (n : ℕ) (old : Code) (result : Result ExpressionRead ReadErr) (new : Code) {r s : Reading Expression} → s ≡ r → Reads n r old result new → Reads n s old result new
reads_as n old result new {r} {s} e h = subst (λ (x : Reading Expression). Reads n x old result new) (sym e) h

pub refused_as : {A : Type 0} {r : Result A Refusal} {f g : Refusal} → r ≡ Err f → Refused f ≡ Refused g → r ≡ Err g
refused_as {A} {r} {f} {g} h e = cc

pub as_value : {n : ℕ} {r : Reading Expression} {old new : Code} {b : Bool} {u w : Text} → Puts n r old new false u → b ≡ false → w ≡ u → Puts n r old new b w
as_value {n} {r} {old} {new} {b} {u} {w} p e f = record {
  expression = p.expression;
  reads = rw f p.reads;
  puts = p.puts;
  kind = e ∙ p.kind;
}

pub base_refused : (inside : Rules) (t : Text) {refusal : Refusal} → operand inside t ≡ Err refusal → power inside t ≡ Err refusal
unfolding power
base_refused inside t {refusal} h = rw h refl

pub condition_refused : (inside : Rules) (t : Text) {refusal : Refusal} → binary inside 10 t ≡ Err refusal → conditional inside t ≡ Err refusal
unfolding conditional
condition_refused inside t {refusal} h = rw h refl

pub first_refused : (inside : Rules) (t : Text) {refusal : Refusal} → conditional inside t ≡ Err refusal → assignment inside t ≡ Err refusal
unfolding assignment
first_refused inside t {refusal} h = rw h refl

pub left_refused : (f : Text → Reading Expression) (level : ℕ) (t : Text) {refusal : Refusal} → f t ≡ Err refusal → joined f level t ≡ Err refusal
unfolding joined
left_refused f level t {refusal} h = rw h refl

-- ---- instructions

after_both : (a d e : Code) {b c : Code} → b ≡ a ++ d → c ≡ b ++ e → c ≡ a ++ (d ++ e)
after_both a d e {b} {c} p q = q ∙ ap (λ x. x ++ e) p ∙ append_assoc a d e

-- two lists with one more element are equal only where the lists and the elements are
data AreLast (xs ys : Code) (x y : Instruction) : Type 0 where
  are_last : xs ≡ ys → x ≡ y → AreLast xs ys x y

one_more : (z : Instruction) {xs ys : Code} {x y : Instruction} {w : Instruction} → z ≡ w → AreLast xs ys x y → AreLast (z ∷ xs) (w ∷ ys) x y
one_more z {xs} {ys} {x} {y} {w} e (are_last p q) = are_last (cc) q

last : (xs ys : Code) (x y : Instruction) → xs ++ x ∷ [] ≡ ys ++ y ∷ [] → AreLast xs ys x y
last [] [] x y e = are_last refl (cc)
last [] (z ∷ []) x y e = absurd (cc)
last [] (z ∷ w ∷ ys) x y e = absurd (cc)
last (z ∷ []) [] x y e = absurd (cc)
last (z ∷ w ∷ xs) [] x y e = absurd (cc)
last (z ∷ xs) (w ∷ ys) x y e = one_more z (cc) (last xs ys x y (cc))

-- ---- symbols

pub alone_power : (inside : Rules) (e : Expression) (t : Text) (o : Option (Symbol × Text)) → past past_power o ≡ None → power_after inside e t o ≡ Ok (e, t)
alone_power inside e t None h = refl
alone_power inside e t (Some s) h = by s.0 s.1 h
  where
    by : (k : Symbol) (u : Text) → past_power k u ≡ None → power_by inside e t k u ≡ Ok (e, t)
    by (symbol.Binary j) u h = refl
    by symbol.Power u h = absurd (cc)
    by symbol.Question u h = refl
    by symbol.Colon u h = refl
    by (symbol.Assign o) u h = refl

at_power : (inside : Rules) (e : Expression) (t v : Text) (o : Option (Symbol × Text)) → past past_power o ≡ Some v → power_after inside e t o ≡ and_then (inside Power v) (λ x w. Ok (Raised e x, w))
at_power inside e t v None h = absurd (cc)
at_power inside e t v (Some s) h = by s.0 s.1 h
  where
    by : (k : Symbol) (u : Text) → past_power k u ≡ Some v → power_by inside e t k u ≡ and_then (inside Power v) (λ x w. Ok (Raised e x, w))
    by (symbol.Binary j) u h = absurd (cc)
    by symbol.Power u h = let same : u ≡ v = cc in ap (λ y. and_then (inside Power y) (λ x w. Ok (Raised e x, w))) same
    by symbol.Question u h = absurd (cc)
    by symbol.Colon u h = absurd (cc)
    by (symbol.Assign o) u h = absurd (cc)

alone_question : (inside : Rules) (e : Expression) (t : Text) (o : Option (Symbol × Text)) → past past_question o ≡ None → choice_after inside e t o ≡ Ok (e, t)
alone_question inside e t None h = refl
alone_question inside e t (Some s) h = by s.0 s.1 h
  where
    by : (k : Symbol) (u : Text) → past_question k u ≡ None → choice_by inside e t k u ≡ Ok (e, t)
    by (symbol.Binary j) u h = refl
    by symbol.Power u h = refl
    by symbol.Question u h = absurd (cc)
    by symbol.Colon u h = refl
    by (symbol.Assign o) u h = refl

at_question : (inside : Rules) (c : Expression) (t v : Text) (o : Option (Symbol × Text)) → past past_question o ≡ Some v → choice_after inside c t o ≡ and_then (inside Whole v) (λ a w. otherwise inside c a (symbol_at w))
at_question inside c t v None h = absurd (cc)
at_question inside c t v (Some s) h = by s.0 s.1 h
  where
    by : (k : Symbol) (u : Text) → past_question k u ≡ Some v → choice_by inside c t k u ≡ and_then (inside Whole v) (λ a w. otherwise inside c a (symbol_at w))
    by (symbol.Binary j) u h = absurd (cc)
    by symbol.Power u h = absurd (cc)
    by symbol.Question u h = let same : u ≡ v = cc in ap (λ y. and_then (inside Whole y) (λ a w. otherwise inside c a (symbol_at w))) same
    by symbol.Colon u h = absurd (cc)
    by (symbol.Assign o) u h = absurd (cc)

no_colon : (inside : Rules) (c a : Expression) (o : Option (Symbol × Text)) → past past_colon o ≡ None → otherwise inside c a o ≡ Err Syntax
no_colon inside c a None h = refl
no_colon inside c a (Some s) h = by s.0 s.1 h
  where
    by : (k : Symbol) (u : Text) → past_colon k u ≡ None → otherwise_by inside c a k u ≡ Err Syntax
    by (symbol.Binary j) u h = refl
    by symbol.Power u h = refl
    by symbol.Question u h = refl
    by symbol.Colon u h = absurd (cc)
    by (symbol.Assign o) u h = refl

at_colon : (inside : Rules) (c a : Expression) (v : Text) (o : Option (Symbol × Text)) → past past_colon o ≡ Some v → otherwise inside c a o ≡ and_then (inside Conditional v) (λ b w. Ok (Chosen c a b, w))
at_colon inside c a v None h = absurd (cc)
at_colon inside c a v (Some s) h = by s.0 s.1 h
  where
    by : (k : Symbol) (u : Text) → past_colon k u ≡ Some v → otherwise_by inside c a k u ≡ and_then (inside Conditional v) (λ b w. Ok (Chosen c a b, w))
    by (symbol.Binary j) u h = absurd (cc)
    by symbol.Power u h = absurd (cc)
    by symbol.Question u h = absurd (cc)
    by symbol.Colon u h = let same : u ≡ v = cc in ap (λ y. and_then (inside Conditional y) (λ b w. Ok (Chosen c a b, w))) same
    by (symbol.Assign o) u h = absurd (cc)

alone_assign : (inside : Rules) (e : Expression) (t : Text) (o : Option (Symbol × Text)) → past past_assign o ≡ None → assignment_after inside e t o ≡ Ok (e, t)
alone_assign inside e t None h = refl
alone_assign inside e t (Some s) h = by s.0 s.1 h
  where
    by : (k : Symbol) (u : Text) → past_assign k u ≡ None → assignment_by inside e t k u ≡ Ok (e, t)
    by (symbol.Binary j) u h = refl
    by symbol.Power u h = refl
    by symbol.Question u h = refl
    by symbol.Colon u h = refl
    by (symbol.Assign o) u h = absurd (cc)

at_assign : (inside : Rules) (e : Expression) (t v : Text) (o : Option Operator) (s : Option (Symbol × Text)) → past past_assign s ≡ Some (o, v) → assignment_after inside e t s ≡ assigned inside o e v
at_assign inside e t v o None h = absurd (cc)
at_assign inside e t v o (Some s) h = by s.0 s.1 h
  where
    by : (k : Symbol) (u : Text) → past_assign k u ≡ Some (o, v) → assignment_by inside e t k u ≡ assigned inside o e v
    by (symbol.Binary j) u h = absurd (cc)
    by symbol.Power u h = absurd (cc)
    by symbol.Question u h = absurd (cc)
    by symbol.Colon u h = absurd (cc)
    by (symbol.Assign q) u h =
        let pair : (q, u) ≡ (o, v) = cc in
        ap (λ (x : Option Operator × Text). assigned inside x.0 e x.1) pair

-- after a byte that must stand there
pub after_at : {A : Type 0} (c : ℕ) (t v : Text) (f : Text → Reading A) → past_byte c t ≡ Some v → after c t f ≡ f v
after_at c [] v f h = absurd (cc)
after_at c (b ∷ t) v f h = by (b == c) h
  where
    by : (x : Bool) → (if x then Some t else None) ≡ Some v → (if x then f t else Err Syntax) ≡ f v
    by true h = let same : t ≡ v = cc in ap f same
    by false h = absurd (cc)

-- ---- `**`

pub power_alone : {n : ℕ} (inside : Rules) (t : Text) {u : Text} {old new : Code} {b : Bool} → Puts n (operand inside t) old new b u → past past_power (symbol_at u) ≡ None → Puts n (power inside t) old new b u
unfolding power
power_alone {n} inside t {u} {old} {new} {b} p h = record {
  expression = p.expression;
  reads = rw p.reads (alone_power inside p.expression u (symbol_at u) h);
  puts = p.puts;
  kind = p.kind;
}

pub power_raised : {n : ℕ} (inside : Rules) (t : Text) {u v w : Text} {old mid mid2 new : Code} {b c : Bool} → Puts n (operand inside t) old mid b u → past past_power (symbol_at u) ≡ Some v → Puts n (inside Power v) mid mid2 c w → new ≡ mid2 ++ i.Raise ∷ [] → Puts n (power inside t) old new false w
unfolding power code_of
power_raised {n} inside t {u} {v} {w} {old} {mid} {mid2} {new} {b} {c} p h q e = record {
  expression = Raised p.expression q.expression;
  reads = rw p.reads (at_power inside p.expression u v (symbol_at u) h ∙ (rw q.reads refl));
  puts = after_both _ _ _ (after_both _ _ _ p.puts q.puts) e;
  kind = refl;
}

pub power_refused : {n : ℕ} (inside : Rules) (t : Text) {u v : Text} {old mid : Code} {b : Bool} {refusal : Refusal} → Puts n (operand inside t) old mid b u → past past_power (symbol_at u) ≡ Some v → inside Power v ≡ Err refusal → power inside t ≡ Err refusal
unfolding power
power_refused {n} inside t {u} {v} {old} {mid} {b} {refusal} p h q = rw p.reads (at_power inside p.expression u v (symbol_at u) h ∙ (rw q refl))

-- ---- `?:`

pub condition_alone : {n : ℕ} (inside : Rules) (t : Text) {u : Text} {old new : Code} {b : Bool} → Puts n (binary inside 10 t) old new b u → past past_question (symbol_at u) ≡ None → Puts n (conditional inside t) old new b u
unfolding conditional
condition_alone {n} inside t {u} {old} {new} {b} p h = record {
  expression = p.expression;
  reads = rw p.reads (alone_question inside p.expression u (symbol_at u) h);
  puts = p.puts;
  kind = p.kind;
}

pub middle_refused : {n : ℕ} (inside : Rules) (t : Text) {u v : Text} {old mid : Code} {b : Bool} {refusal : Refusal} → Puts n (binary inside 10 t) old mid b u → past past_question (symbol_at u) ≡ Some v → inside Whole v ≡ Err refusal → conditional inside t ≡ Err refusal
unfolding conditional
middle_refused {n} inside t {u} {v} {old} {mid} {b} {refusal} p h q = rw p.reads (at_question inside p.expression u v (symbol_at u) h ∙ (rw q refl))

pub colon_refused : {n : ℕ} (inside : Rules) (t : Text) {u v w : Text} {old mid some more : Code} {b c : Bool} → Puts n (binary inside 10 t) old mid b u → past past_question (symbol_at u) ≡ Some v → Puts n (inside Whole v) some more c w → past past_colon (symbol_at w) ≡ None → conditional inside t ≡ Err Syntax
unfolding conditional
colon_refused {n} inside t {u} {v} {w} {old} {mid} {some} {more} {b} {c} p h q k = rw p.reads (at_question inside p.expression u v (symbol_at u) h ∙ (rw q.reads (no_colon inside p.expression q.expression (symbol_at w) k)))

pub last_refused : {n : ℕ} (inside : Rules) (t : Text) {u v w x : Text} {old mid some more : Code} {b c : Bool} {refusal : Refusal} → Puts n (binary inside 10 t) old mid b u → past past_question (symbol_at u) ≡ Some v → Puts n (inside Whole v) some more c w → past past_colon (symbol_at w) ≡ Some x → inside Conditional x ≡ Err refusal → conditional inside t ≡ Err refusal
unfolding conditional
last_refused {n} inside t {u} {v} {w} {x} {old} {mid} {some} {more} {b} {c} {refusal} p h q k r = rw p.reads (at_question inside p.expression u v (symbol_at u) h ∙ (rw q.reads (at_colon inside p.expression q.expression x (symbol_at w) k ∙ (rw r refl))))

pub condition_chosen : {n : ℕ} (inside : Rules) (t : Text) {u v w x y : Text} {old mid empty middle none other new : Code} {b c d : Bool} → Puts n (binary inside 10 t) old mid b u → past past_question (symbol_at u) ≡ Some v → Puts n (inside Whole v) empty middle c w → empty ≡ [] → past past_colon (symbol_at w) ≡ Some x → Puts n (inside Conditional x) none other d y → none ≡ [] → new ≡ mid ++ chosen middle other → Puts n (conditional inside t) old new false y
unfolding conditional code_of
condition_chosen {n} inside t {u} {v} {w} {x} {y} {old} {mid} {empty} {middle} {none} {other} {new} {b} {c} {d} p h q fresh k r fresh2 e =
    let first : middle ≡ code_of n q.expression = q.puts ∙ ap (λ z. z ++ code_of n q.expression) fresh in
    let second : other ≡ code_of n r.expression = r.puts ∙ ap (λ z. z ++ code_of n r.expression) fresh2 in
    record {
      expression = Chosen p.expression q.expression r.expression;
      reads = rw p.reads (at_question inside p.expression u v (symbol_at u) h ∙ (rw q.reads (at_colon inside p.expression q.expression x (symbol_at w) k ∙ (rw r.reads refl))));
      puts = after_both _ _ _ p.puts (e ∙ ap (λ z. mid ++ chosen z other) first ∙ ap (λ z. mid ++ chosen (code_of n q.expression) z) second) ∙ ap (λ z. old ++ z) (sym (append_assoc (code_of n p.expression) (i.Unless (length (code_of n q.expression) + 1) ∷ code_of n q.expression) (i.Skip (length (code_of n r.expression)) ∷ code_of n r.expression)));
      kind = refl;
    }

-- ---- assignments

data IsValueOf (e : Expression) : Type 0 where
  is_value : (v : Variable) → e ≡ ValueOf v → IsValueOf e

value_of_variable : (e : Expression) → is_value_of e ≡ true → IsValueOf e
value_of_variable Nothing h = absurd (cc)
value_of_variable (Constant z) h = absurd (cc)
value_of_variable (ValueOf v) h = is_value v refl
value_of_variable (Opened e) h = absurd (cc)
value_of_variable (Signed s e) h = absurd (cc)
value_of_variable (Incremented w d v) h = absurd (cc)
value_of_variable (Raised a b) h = absurd (cc)
value_of_variable (Joined j a b) h = absurd (cc)
value_of_variable (Chosen c a b) h = absurd (cc)
value_of_variable (Assigned by v e) h = absurd (cc)

not_assigned : (inside : Rules) (by : Option Operator) (e : Expression) (t : Text) → is_value_of e ≡ false → assigned inside by e t ≡ Err Syntax
not_assigned inside by Nothing t h = refl
not_assigned inside by (Constant z) t h = refl
not_assigned inside by (ValueOf v) t h = absurd (cc)
not_assigned inside by (Opened e) t h = refl
not_assigned inside by (Signed s e) t h = refl
not_assigned inside by (Incremented w d v) t h = refl
not_assigned inside by (Raised a b) t h = refl
not_assigned inside by (Joined j a b) t h = refl
not_assigned inside by (Chosen c a b) t h = refl
not_assigned inside by (Assigned o v e) t h = refl

value_code : (n : ℕ) (v : Variable) → code_of n (ValueOf v) ≡ subscript_code n v ++ i.Fetch (ref_of n v) ∷ []
unfolding code_of
value_code n v = refl

pub target_alone : {n : ℕ} (inside : Rules) (t : Text) {u : Text} {old new : Code} {b : Bool} → Puts n (conditional inside t) old new b u → past past_assign (symbol_at u) ≡ None → Puts n (assignment inside t) old new b u
unfolding assignment
target_alone {n} inside t {u} {old} {new} {b} p h = record {
  expression = p.expression;
  reads = rw p.reads (alone_assign inside p.expression u (symbol_at u) h);
  puts = p.puts;
  kind = p.kind;
}

pub target_refused : {n : ℕ} (inside : Rules) (t : Text) {u v : Text} {old mid : Code} {b : Bool} {by : Option Operator} → Puts n (conditional inside t) old mid b u → past past_assign (symbol_at u) ≡ Some (by, v) → (b ≡ true → (front : Code) (ref : VariableRef) → mid ≡ front ++ i.Fetch ref ∷ [] → ⊥) → assignment inside t ≡ Err Syntax
unfolding assignment
target_refused {n} inside t {u} {v} {old} {mid} {b} {by} p h never = rw p.reads (at_assign inside p.expression u v by (symbol_at u) h ∙ decide (is_value_of p.expression) refl)
  where
    clash : is_value_of p.expression ≡ true → IsValueOf p.expression → ⊥
    clash k (is_value x e) = never (p.kind ∙ k) (old ++ subscript_code n x) (ref_of n x) (p.puts ∙ ap (λ y. old ++ code_of n y) e ∙ ap (λ c. old ++ c) (value_code n x) ∙ sym (append_assoc old (subscript_code n x) (i.Fetch (ref_of n x) ∷ [])))

    decide : (m : Bool) → is_value_of p.expression ≡ m → assigned inside by p.expression v ≡ Err Syntax
    decide true k = absurd (clash k (value_of_variable p.expression k))
    decide false k = not_assigned inside by p.expression v k

pub right_refused : {n : ℕ} (inside : Rules) (t : Text) {u v : Text} {old mid : Code} {b : Bool} {by : Option Operator} {refusal : Refusal} → Puts n (conditional inside t) old mid b u → past past_assign (symbol_at u) ≡ Some (by, v) → b ≡ true → inside Assignment v ≡ Err refusal → assignment inside t ≡ Err refusal
unfolding assignment
right_refused {n} inside t {u} {v} {old} {mid} {b} {by} {refusal} p h k q = rw p.reads (at_assign inside p.expression u v by (symbol_at u) h ∙ from (value_of_variable p.expression (sym p.kind ∙ k)))
  where
    from : IsValueOf p.expression → assigned inside by p.expression v ≡ Err refusal
    from (is_value x e) = ap (λ y. assigned inside by y v) e ∙ (rw q refl)

assigned_code : (by : Option Operator) (p : VariableRef) (right : Code) → assigning by p right ≡ loading by p ++ (right ++ storing by p)
assigned_code None p right = refl
assigned_code (Some o) p right = refl

assigned_after : (n : ℕ) (by : Option Operator) (x : Variable) (e : Expression) (old : Code) {front loaded whole new : Code} → front ≡ old ++ subscript_code n x → loaded ≡ front ++ loading by (ref_of n x) → whole ≡ loaded ++ code_of n e → new ≡ whole ++ storing by (ref_of n x) → new ≡ old ++ code_of n (Assigned by x e)
unfolding code_of
assigned_after n by x e old {front} {loaded} {whole} {new} p q r s =
    after_both old (subscript_code n x) (loading by (ref_of n x) ++ (code_of n e ++ storing by (ref_of n x))) p (after_both front (loading by (ref_of n x)) (code_of n e ++ storing by (ref_of n x)) q (after_both loaded (code_of n e) (storing by (ref_of n x)) r s)) ∙ ap (λ c. old ++ (subscript_code n x ++ c)) (sym (assigned_code by (ref_of n x) (code_of n e)))

pub target_assigned : {n : ℕ} (inside : Rules) (t : Text) {u v w : Text} {old mid loaded whole new : Code} {b c : Bool} {by : Option Operator} (front : Code) (ref : VariableRef) → Puts n (conditional inside t) old mid b u → past past_assign (symbol_at u) ≡ Some (by, v) → b ≡ true → mid ≡ front ++ i.Fetch ref ∷ [] → loaded ≡ front ++ loading by ref → Puts n (inside Assignment v) loaded whole c w → new ≡ whole ++ storing by ref → Puts n (assignment inside t) old new false w
unfolding assignment
target_assigned {n} inside t {u} {v} {w} {old} {mid} {loaded} {whole} {new} {b} {c} {by} front ref p h k taken l q s = from (value_of_variable p.expression (sym p.kind ∙ k))
  where
    put : (x : Variable) → AreLast front (old ++ subscript_code n x) (i.Fetch ref) (i.Fetch (ref_of n x)) → new ≡ old ++ code_of n (Assigned by x q.expression)
    put x (are_last f g) =
        let same : ref ≡ ref_of n x = cc in
        assigned_after n by x q.expression old f (l ∙ ap (λ y. front ++ loading by y) same) q.puts (s ∙ ap (λ y. whole ++ storing by y) same)

    from : IsValueOf p.expression → Puts n (assignment inside t) old new false w
    from (is_value x e) = record {
      expression = Assigned by x q.expression;
      reads = rw p.reads (at_assign inside p.expression u v by (symbol_at u) h ∙ ap (λ y. assigned inside by y v) e ∙ (rw q.reads refl));
      puts = put x (last front (old ++ subscript_code n x) (i.Fetch ref) (i.Fetch (ref_of n x)) (sym taken ∙ p.puts ∙ ap (λ y. old ++ code_of n y) e ∙ ap (λ c. old ++ c) (value_code n x) ∙ sym (append_assoc old (subscript_code n x) (i.Fetch (ref_of n x) ∷ []))));
      kind = refl;
    }

-- ---- operands

pub signed_put : {n : ℕ} (inside : Rules) (t : Text) {u v : Text} {old mid new : Code} {b : Bool} {s : Sign} → first_of signs t ≡ Some (s, v) → Puts n (inside Operand v) old mid b u → new ≡ mid ++ i.Sign s ∷ [] → Puts n (signed inside t (first_of signs t)) old new false u
unfolding code_of
signed_put {n} inside t {u} {v} {old} {mid} {new} {b} {s} h p e = record {
  expression = Signed s p.expression;
  reads = ap (signed inside t) h ∙ (rw p.reads refl);
  puts = after_both _ _ _ p.puts e;
  kind = refl;
}

pub operand_incremented : (inside : Rules) (t : Text) {v : Text} {d : Increment} → pre_increment t ≡ Some (d, v) → operand inside t ≡ inside (PreIncrement d) v
unfolding operand
operand_incremented inside t {v} {d} h = rw h refl

pub operand_signed : (inside : Rules) (t : Text) → pre_increment t ≡ None → operand inside t ≡ signed inside (after_blanks t) (first_of signs (after_blanks t))
unfolding operand
operand_signed inside t h = rw h refl

pub value_put : {n : ℕ} (inside : Rules) (t : Text) {u : Text} {old mid new : Code} {ref : VariableRef} → PutsVariable n (variable inside t) old mid ref u → post_increment u ≡ None → new ≡ mid ++ i.Fetch ref ∷ [] → Puts n (variable_value inside t) old new true u
value_put {n} inside t {u} {old} {mid} {new} {ref} p h e = record {
  expression = ValueOf p.variable;
  reads = rw (p.reads, h) refl;
  puts = after_both _ _ _ p.puts (e ∙ ap (λ x. mid ++ i.Fetch x ∷ []) p.names) ∙ ap (λ c. old ++ c) (sym (value_code n p.variable));
  kind = refl;
}

pub post_put : {n : ℕ} (inside : Rules) (t : Text) {u v : Text} {old mid new : Code} {ref : VariableRef} {d : Increment} → PutsVariable n (variable inside t) old mid ref u → post_increment u ≡ Some (d, v) → new ≡ mid ++ i.Increment Post d ref ∷ [] → Puts n (variable_value inside t) old new false v
unfolding code_of
post_put {n} inside t {u} {v} {old} {mid} {new} {ref} {d} p h e = record {
  expression = Incremented Post d p.variable;
  reads = rw (p.reads, h) refl;
  puts = after_both _ _ _ p.puts (e ∙ ap (λ x. mid ++ i.Increment Post d x ∷ []) p.names);
  kind = refl;
}

pub pre_put : {n : ℕ} (inside : Rules) (t : Text) {u : Text} {old mid new : Code} {ref : VariableRef} (d : Increment) → PutsVariable n (variable inside t) old mid ref u → post_increment u ≡ None → new ≡ mid ++ i.Increment Pre d ref ∷ [] → Puts n (pre_incremented inside d t) old new false u
unfolding code_of
pre_put {n} inside t {u} {old} {mid} {new} {ref} d p h e = record {
  expression = Incremented Pre d p.variable;
  reads = rw (p.reads, h) refl;
  puts = after_both _ _ _ p.puts (e ∙ ap (λ x. mid ++ i.Increment Pre d x ∷ []) p.names);
  kind = refl;
}

-- ---- variables

no_bracket : (inside : Rules) (x u : Text) → past_byte 91 u ≡ None → variable_after inside x u ≡ Ok (Named x, u)
no_bracket inside x [] h = refl
no_bracket inside x (b ∷ u) h = by (b == 91) h
  where
    by : (c : Bool) → (if c then Some u else None) ≡ None → (if c then and_then (inside Subscript u) (λ e w. after 93 (after_blanks w) (λ y. Ok (Element x e, y))) else Ok (Named x, b ∷ u)) ≡ Ok (Named x, b ∷ u)
    by true h = absurd (cc)
    by false h = refl

at_bracket : (inside : Rules) (x u v : Text) → past_byte 91 u ≡ Some v → variable_after inside x u ≡ and_then (inside Subscript v) (λ e w. after 93 (after_blanks w) (λ y. Ok (Element x e, y)))
at_bracket inside x [] v h = absurd (cc)
at_bracket inside x (b ∷ u) v h = by (b == 91) h
  where
    by : (c : Bool) → (if c then Some u else None) ≡ Some v → (if c then and_then (inside Subscript u) (λ e w. after 93 (after_blanks w) (λ y. Ok (Element x e, y))) else Ok (Named x, b ∷ u)) ≡ and_then (inside Subscript v) (λ e w. after 93 (after_blanks w) (λ y. Ok (Element x e, y)))
    by true h = let same : u ≡ v = cc in ap (λ z. and_then (inside Subscript z) (λ e w. after 93 (after_blanks w) (λ y. Ok (Element x e, y)))) same
    by false h = absurd (cc)

pub named_put : {n : ℕ} (inside : Rules) (t : Text) {x u : Text} {old : Code} {ref : VariableRef} → name_at t ≡ Some (x, u) → past_byte 91 u ≡ None → ref ≡ record { name = x; has_subscript = false; nesting_left = n } → PutsVariable n (variable inside t) old old ref u
unfolding subscript_code
named_put {n} inside t {x} {u} {old} {ref} h k e = record {
  variable = Named x;
  reads = ap (variable_of inside) h ∙ no_bracket inside x u k;
  puts = sym (append-nil old);
  names = e;
}

pub element_put : {n : ℕ} (inside : Rules) (t : Text) {x u v w y : Text} {old new : Code} {b : Bool} {ref : VariableRef} → name_at t ≡ Some (x, u) → past_byte 91 u ≡ Some v → Puts n (inside Subscript v) old new b w → past_byte 93 (after_blanks w) ≡ Some y → ref ≡ record { name = x; has_subscript = true; nesting_left = n } → PutsVariable n (variable inside t) old new ref y
unfolding subscript_code
element_put {n} inside t {x} {u} {v} {w} {y} {old} {new} {b} {ref} h k p q e = record {
  variable = Element x p.expression;
  reads = ap (variable_of inside) h ∙ at_bracket inside x u v k ∙ (rw p.reads (after_at 93 (after_blanks w) y (λ z. Ok (Element x p.expression, z)) q));
  puts = p.puts;
  names = e;
}

-- ---- nesting

reading_is : (n : ℕ) (r : Rule) (t : Text) → reading n r t ≡ by_rule (inner n) r t
unfolding reading inner
reading_is zero r t = refl
reading_is (suc n) r t = refl

pub deeper_none : (n : ℕ) (r : Rule) (t : Text) → n ≡ 0 → inner n r t ≡ Err Nesting
unfolding inner
deeper_none n r t e = rw e refl

inner_is : (m : ℕ) (r : Rule) (t : Text) → inner (suc m) r t ≡ opened (by_rule (inner m) r t)
unfolding inner
inner_is m r t = ap opened (reading_is m r t)

opened_code : (n m : ℕ) (e : Expression) → m ≡ n - 1 → code_of n (Opened e) ≡ code_of m e
unfolding code_of
opened_code n m e h = rw h refl

pub deeper_put : {n m : ℕ} (r : Rule) (t : Text) {u : Text} {old new : Code} {b : Bool} → n ≢ 0 → m ≡ n - 1 → Puts m (by_rule (inner m) r t) old new b u → Puts n (inner n r t) old new false u
deeper_put {n} {m} r t {u} {old} {new} {b} h k p =
    let e : n ≡ suc m = omega arith in
    record {
      expression = Opened p.expression;
      reads = ap (λ x. inner x r t) e ∙ inner_is m r t ∙ (rw p.reads refl);
      puts = p.puts ∙ ap (λ c. old ++ c) (sym (opened_code n m p.expression k));
      kind = refl;
    }

pub deeper_refused : {n m : ℕ} (r : Rule) (t : Text) {refusal : Refusal} → n ≢ 0 → m ≡ n - 1 → by_rule (inner m) r t ≡ Err refusal → inner n r t ≡ Err refusal
deeper_refused {n} {m} r t {refusal} h k p =
    let e : n ≡ suc m = omega arith in
    ap (λ x. inner x r t) e ∙ inner_is m r t ∙ ap opened p

-- ---- levels of precedence

pub whole_is : (inside : Rules) (t : Text) → whole inside t ≡ joined (side inside 11) 11 t
unfolding whole side
whole_is inside t = refl

pub side_last : (inside : Rules) (level : ℕ) (t : Text) → level ≡ 11 → side inside level t ≡ assignment inside t
unfolding side
side_last inside level t e = rw e refl

side_is : (inside : Rules) (level : ℕ) → level ≢ 11 → side inside level ≡ (λ u. binary inside (level - 1) u)
unfolding side
side_is inside level h = let k : (level == 11) ≡ false = grind (arith, nat_tests) in rw k refl

pub side_other : (inside : Rules) (level : ℕ) (t : Text) → level ≢ 11 → side inside level t ≡ binary inside (level - 1) t
side_other inside level t h = ap (λ f. f t) (side_is inside level h)

pub binary_none : (inside : Rules) (level : ℕ) (t : Text) → level ≡ 0 → binary inside level t ≡ power inside t
unfolding binary
binary_none inside level t e = rw e refl

binary_suc : (inside : Rules) (k : ℕ) (t : Text) → binary inside (suc k) t ≡ joined (λ u. binary inside k u) (suc k) t
unfolding binary
binary_suc inside k t = refl

pub binary_joined : (inside : Rules) (level : ℕ) (t : Text) → level ≢ 0 → level ≤ 10 → binary inside level t ≡ joined (side inside level) level t
binary_joined inside level t h low =
    let e : level ≡ suc (level - 1) = omega arith in
    ap (λ x. binary inside x t) e ∙ binary_suc inside (level - 1) t ∙ ap (λ x. joined (λ u. binary inside (level - 1) u) x t) (sym e) ∙ ap (λ f. joined f level t) (sym (side_is inside level (omega arith)))

-- ---- subscripts

pub subscript_empty : {n : ℕ} (inside : Rules) (t : Text) {old new : Code} → begins 93 (after_blanks t) ≡ true → new ≡ old ++ i.Push (pos 0) ∷ [] → Puts n (subscript inside t) old new false t
unfolding code_of
subscript_empty {n} inside t {old} {new} h e = record {
  expression = Nothing;
  reads = rw h refl;
  puts = e;
  kind = refl;
}

-- ---- constants

pub constant_put : {n : ℕ} (t : Text) {u : Text} {old new : Code} {z : ℤ} → constant_of (take (constant_len t) t) ≡ Some z → u ≡ drop (constant_len t) t → new ≡ old ++ i.Push z ∷ [] → Puts n (constant t) old new false u
unfolding code_of
constant_put {n} t {u} {old} {new} {z} h e k = record {
  expression = Constant z;
  reads = ap (λ o. constant_by o (drop (constant_len t) t)) h ∙ ap (λ x. Ok (Constant z, x)) (sym e);
  puts = k;
  kind = refl;
}

pub at_digit : (inside : Rules) (t : Text) → 1 ≤ length t → get_or t 0 0 ≢ 40 → begins_name t ≡ false → is_digit (get_or t 0 0) ≡ true → primary inside t ≡ constant t
at_digit inside [] h k m d = absurd (omega arith)
at_digit inside (b ∷ t) h k m d = let e : (b == 40) ≡ false = grind (arith, nat_tests) in rw (e, m, d) refl

-- ---- a whole text

pub program_empty : (n : ℕ) (t : Text) {old : Code} (new : Code) → ends (after_blanks t) ≡ true → old ≡ [] → new ≡ old ++ i.Push (pos 0) ∷ [] → program n t ≡ Ok new
unfolding program code_of
program_empty n t {old} new h fresh p = rw h (ap (λ c. Ok c) (sym (p ∙ ap (λ c. c ++ i.Push (pos 0) ∷ []) fresh)))

whole_read : (n : ℕ) (t : Text) → reading n Whole t ≡ whole (inner n) t
whole_read n t = reading_is n Whole t

pub program_read : {n : ℕ} (t : Text) {u : Text} {old new : Code} {b : Bool} → ends (after_blanks t) ≡ false → old ≡ [] → Puts n (whole (inner n) t) old new b u → ends (after_blanks u) ≡ true → program n t ≡ Ok new
unfolding program
program_read {n} t {u} {old} {new} {b} h fresh p k =
    rw (h, whole_read n t, p.reads, k) (ap (λ c. Ok c) (sym (p.puts ∙ ap (λ c. c ++ code_of n p.expression) fresh)))

pub program_after : {n : ℕ} (t : Text) {u : Text} {old new : Code} {b : Bool} → ends (after_blanks t) ≡ false → Puts n (whole (inner n) t) old new b u → ends (after_blanks u) ≡ false → program n t ≡ Err Syntax
unfolding program
program_after {n} t {u} {old} {new} {b} h p k = rw (h, whole_read n t, p.reads, k) refl

pub program_refused : (n : ℕ) (t : Text) {refusal : Refusal} → ends (after_blanks t) ≡ false → whole (inner n) t ≡ Err refusal → program n t ≡ Err refusal
unfolding program
program_refused n t {refusal} h p = rw (h, whole_read n t, p) refl
