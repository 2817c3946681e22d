-- Operands of a level, joined from the left in a loop.
use Rattle.std.proofs.Common.{◌≡◌, ◌∙◌, ℕ, zero, suc, ◌+◌, Bool, false, [], ◌∷◌, ◌++◌, length, Some, None, Ok, Err, refl, ap, sym, append_assoc}
use Rattle.eb_bytes.specs.Text.{Text}
use Rattle.arith_syntax.specs.declared.instruction.Instruction.TheVariants as i
use Rattle.arith_syntax.specs.declared.operator.BinaryOperator.{BinaryOperator}
use Rattle.arith_syntax.specs.declared.operator.BinaryOperator.TheVariants.{Comma, Or, And, Both}
use Rattle.arith_syntax.specs.declared.error.Refusal.{Refusal}
use Rattle.arith_syntax.specs.Code.{Code, code_of, joining}
use Rattle.arith_syntax.specs.Expression.{Expression, Joined}
use Rattle.arith_syntax.specs.Putting.{Puts, PutsRight, continued, is_value_of}
use Rattle.arith_syntax.specs.Reading.{Reading, grown, binary_operator_at, joined}

-- what the loop knows where so many turns are left
pub record Grows (n level : ℕ) (side : Text → Reading Expression) (t : Text) (turns : ℕ) (old now : Code) (is_variable : Bool) (rest : Text) : Type 0 where
  pub left : Expression
  pub same : joined side level t ≡ grown side level turns left rest
  pub puts : now ≡ old ++ code_of n left
  pub kind : is_variable ≡ is_value_of left

pub joining-continued : (j : BinaryOperator) (left right : Code) → joining j left right ≡ left ++ continued j right
joining-continued Comma left right = refl
joining-continued Or left right = append_assoc left (i.OrElse (length right + 1) ∷ right) (i.Truth ∷ [])
joining-continued And left right = append_assoc left (i.AndThen (length right + 1) ∷ right) (i.Truth ∷ [])
joining-continued (Both o) left right = append_assoc left right (i.Operate o ∷ [])

joined_puts : (n : ℕ) (j : BinaryOperator) (left right : Expression) (old now new : Code) → now ≡ old ++ code_of n left → new ≡ now ++ continued j (code_of n right) → new ≡ old ++ code_of n (Joined j left right)
unfolding code_of
joined_puts n j left right old now new p q = q ∙ ap (λ c. c ++ continued j (code_of n right)) p ∙ append_assoc old (code_of n left) (continued j (code_of n right)) ∙ ap (λ c. old ++ c) (sym (joining-continued j (code_of n left) (code_of n right)))

pub grows_begun : {n level : ℕ} {side : Text → Reading Expression} {t : Text} {turns : ℕ} {old now : Code} {b : Bool} {u : Text} → Puts n (side t) old now b u → turns ≡ length u → Grows n level side t turns old now b u
unfolding joined
grows_begun {n} {level} {side} {t} {turns} {old} {now} {b} {u} p e = record {
  left = p.expression;
  same = rw (p.reads, e) refl;
  puts = p.puts;
  kind = p.kind;
}

pub grows_next : {n level : ℕ} {side : Text → Reading Expression} {t : Text} {turns m : ℕ} {old now new : Code} {b c : Bool} {u v w : Text} {j : BinaryOperator} → Grows n level side t turns old now b u → turns ≡ suc m → binary_operator_at level u ≡ Some (j, v) → PutsRight n j (side v) now new w → c ≡ false → Grows n level side t m old new c w
unfolding grown
grows_next {n} {level} {side} {t} {turns} {m} {old} {now} {new} {b} {c} {u} {v} {w} {j} g e at p f = record {
  left = Joined j g.left p.right;
  same = g.same ∙ (rw (e, at, p.reads) refl);
  puts = joined_puts n j g.left p.right old now new g.puts p.puts;
  kind = f;
}

pub grows_refused : {n level : ℕ} {side : Text → Reading Expression} {t : Text} {turns m : ℕ} {old now : Code} {b : Bool} {u v : Text} {j : BinaryOperator} {refusal : Refusal} → Grows n level side t turns old now b u → turns ≡ suc m → binary_operator_at level u ≡ Some (j, v) → side v ≡ Err refusal → joined side level t ≡ Err refusal
unfolding grown
grows_refused {n} {level} {side} {t} {turns} {m} {old} {now} {b} {u} {v} {j} {refusal} g e at p = g.same ∙ (rw (e, at, p) refl)

stopped : (side : Text → Reading Expression) (level turns : ℕ) (left : Expression) (u : Text) → binary_operator_at level u ≡ None → grown side level turns left u ≡ Ok (left, u)
unfolding grown
stopped side level zero left u at = refl
stopped side level (suc m) left u at = rw at refl

pub grows_stopped : {n level : ℕ} {side : Text → Reading Expression} {t : Text} {turns : ℕ} {old now : Code} {b : Bool} {u : Text} → Grows n level side t turns old now b u → binary_operator_at level u ≡ None → Puts n (joined side level t) old now b u
grows_stopped {n} {level} {side} {t} {turns} {old} {now} {b} {u} g at = record {
  expression = g.left;
  reads = g.same ∙ stopped side level turns g.left u at;
  puts = g.puts;
  kind = g.kind;
}

pub grows_ended : {n level : ℕ} {side : Text → Reading Expression} {t : Text} {turns : ℕ} {old now : Code} {b : Bool} {u : Text} → Grows n level side t turns old now b u → turns ≡ 0 → Puts n (joined side level t) old now b u
unfolding grown
grows_ended {n} {level} {side} {t} {turns} {old} {now} {b} {u} g e = record {
  expression = g.left;
  reads = g.same ∙ (rw e refl);
  puts = g.puts;
  kind = g.kind;
}
