-- The words of operators, subscripts, slices and arithmetic texts that are opened.
use Rattle.std.proofs.Common.{◌≡◌, ℕ, ℤ, Bool, true, false, List, [], ◌∷◌, Option, Result, refl, ◌∙◌}
use Rattle.bash_arith.specs.Numbers.{number_text}
use Rattle.eb_bytes.specs.Text.{Text}
use Rattle.eb_syntax.specs.declared.parts.CaseOp.{CaseOp}
use Rattle.eb_syntax.specs.declared.parts.ReplaceOp.{ReplaceOp}
use Rattle.eb_syntax.specs.declared.parts.StripOp.{StripOp}
use Rattle.eb_syntax.specs.declared.tree.AP.TheOpen.{Op-F}
use Rattle.eb_syntax.specs.declared.tree.AP.{AP}
use Rattle.eb_syntax.specs.declared.tree.PW.{PW}
use Rattle.eb_syntax.specs.declared.tree.Param.{Param, out-Param}
use Rattle.eb_syntax.specs.declared.tree.SW.{SW}
use Rattle.eb_syntax.specs.declared.tree.SubPart.{SubPart}
use Rattle.shell_state.specs.Outcome.{Doing, Outcome, ◌>>=◌, ◌<$>◌, and_then, refuse}
use Rattle.shell_state.specs.State.{State}
use Rattle.shell_state.specs.declared.fault.Fault.TheVariants as fault
use Rattle.shell_state.specs.declared.stop.Stop.{Stop}
use Rattle.word_meaning.specs.Marks.{Given, bytes_of, emitted, given}
use Rattle.word_meaning.specs.Words.{assigned_value, index, inside, number_of, op_at, opened, operand_text, operand_value}
use Rattle.word_meaning.specs.declared.mode.Mode.{Mode}
use Rattle.word_meaning.specs.declared.mode.Mode.TheVariants as mode
use Rattle.word_meaning.specs.declared.mode.Tildes.TheVariants as tildes
use Rattle.expand_values.specs.Seen.{element_at, found_of, place_of}
use Rattle.expand_values.specs.declared.found.Found.{Found as Kept}
use Rattle.expand_values.specs.declared.found.Place.{Place}
use Rattle.expand_parts.specs.Acts.{Acts, Opens}
use Rattle.expand_parts.specs.Deeds.{is_written}
use Rattle.expand_parts.specs.Rest.{Sub, param_found, pointed_found, referred_name}
use Rattle.expand_parts.specs.declared.level.Act.{Act}
use Rattle.expand_parts.specs.declared.level.Parts.TheVariants as of
use Rattle.expand_parts.specs.declared.level.Target.{Target}
use Rattle.expand_parts.specs.declared.level.Use.TheVariants as use_of
use Rattle.expand_parts.proofs.Inside.{assoc}
use Rattle.expand_parts.proofs.Opened.{begins_arith, begins_operand, begins_slice, begins_subscript, opens}

module _ (result : Result Act Stop) (sub : Sub) (n : ℕ) (at : State) where
  pub arithmetic_opens : (quoted : Bool) (aps : List AP) → Opens result (of.Arith aps) mode.Text tildes.Nowhere (use_of.Arithmetic quoted) n
      → Acts result sub ((opened (inside sub n) (λ p. p.arith aps) >>= (λ g. (λ k. given (emitted quoted (number_text k))) <$> number_of g)) at) n at
  arithmetic_opens quoted aps h = opens result (of.Arith aps) mode.Text tildes.Nowhere (use_of.Arithmetic quoted) sub n _ at (begins_arith aps) refl h

  pub value_opens : (m : Mode) (ws : List PW) → Opens result (of.Operand ws) m tildes.AtStart use_of.Value n
      → Acts result sub (operand_value sub (inside sub n) m ws at) n at
  value_opens m ws h = opens result (of.Operand ws) m tildes.AtStart use_of.Value sub n _ at (begins_operand ws) refl h

  pub assign_opens : (quoted : Bool) (place : Place) (ws : List PW) → Opens result (of.Operand ws) mode.Text tildes.AtStart (use_of.Assign quoted place) n
      → Acts result sub ((operand_text sub (inside sub n) tildes.AtStart ws >>= assigned_value sub (inside sub n) quoted (place_of place)) at) n at
  assign_opens quoted place ws h = opens result (of.Operand ws) mode.Text tildes.AtStart (use_of.Assign quoted place) sub n _ at (begins_operand ws) refl h

  pub fail_opens : (name : Text) (ws : List PW) → Opens result (of.Operand ws) mode.Text tildes.AtStart (use_of.Fail name) n
      → Acts result sub ((operand_text sub (inside sub n) tildes.AtStart ws >>= (λ g. refuse (fault.UnsetParameter name (bytes_of g)))) at) n at
  fail_opens name ws h = opens result (of.Operand ws) mode.Text tildes.AtStart (use_of.Fail name) sub n _ at (begins_operand ws) refl h

  pub strip_opens : (to : Target) (op : StripOp) (ws : List PW) (found : Kept) → Opens result (of.Operand ws) mode.Text tildes.AtStart (use_of.Strip to op found) n
      → Acts result sub (op_at sub (inside sub n) to.mode to.quoted to.name (found_of found) (Op-F.Strip op ws) at) n at
  strip_opens to op ws found h = opens result (of.Operand ws) mode.Text tildes.AtStart (use_of.Strip to op found) sub n _ at (begins_operand ws) refl h

  pub pattern_opens : (to : Target) (op : ReplaceOp) (ws : List PW) (other : Option (List PW)) (found : Kept)
      → Opens result (of.Operand ws) mode.Text tildes.AtStart (use_of.Pattern to op other found) n
      → Acts result sub (op_at sub (inside sub n) to.mode to.quoted to.name (found_of found) (Op-F.Replace op ws other) at) n at
  pattern_opens to op ws other found h = opens result (of.Operand ws) mode.Text tildes.AtStart (use_of.Pattern to op other found) sub n _ at (begins_operand ws) refl h

  -- a subscript, whose number goes on
  index_goes : (ps : List SubPart) (k : ℤ → Doing Given)
      → (index sub (inside sub n) ps >>= k) at ≡ and_then (opened (inside sub n) (λ p. p.subscript ps) at) (λ g. number_of g >>= k)
  index_goes ps k = assoc (opened (inside sub n) (λ p. p.subscript ps) at) number_of k

  pub index_opens : (m : Mode) (quoted : Bool) (p : Param) (ps : List SubPart) → Opens result (of.Subscript ps) mode.Text tildes.Nowhere (use_of.Index m quoted p) n
      → (f : Outcome Given)
      → (f ≡ (index sub (inside sub n) ps >>= (λ i. element_at (referred_name (out-Param p)) i >>= param_found sub (inside sub n) m quoted (out-Param p))) at)
      → Acts result sub f n at
  index_opens m quoted p ps h f e =
      opens result (of.Subscript ps) mode.Text tildes.Nowhere (use_of.Index m quoted p) sub n f at (begins_subscript ps) (e ∙ index_goes ps _) h

  pub case_opens : (to : Target) (op : CaseOp) (ws : List PW) (found : Kept)
      → Opens result (of.Operand ws) mode.Text tildes.Nowhere (use_of.Case to op (is_written ws) found) n
      → Acts result sub (op_at sub (inside sub n) to.mode to.quoted to.name (found_of found) (Op-F.Op::Case op ws) at) n at
  case_opens to op [] found h = opens result (of.Operand []) mode.Text tildes.Nowhere (use_of.Case to op false found) sub n _ at (begins_operand []) refl h
  case_opens to op (w ∷ ws) found h = opens result (of.Operand (w ∷ ws)) mode.Text tildes.Nowhere (use_of.Case to op true found) sub n _ at (begins_operand (w ∷ ws)) refl h

  pub slice_opens : (to : Target) (ss : List SW) (len : Option (List SW)) (found : Kept)
      → Opens result (of.Slice ss) mode.Text tildes.Nowhere (use_of.Offset to len found) n
      → Acts result sub (op_at sub (inside sub n) to.mode to.quoted to.name (found_of found) (Op-F.Slice ss len) at) n at
  slice_opens to ss len found h =
      opens result (of.Slice ss) mode.Text tildes.Nowhere (use_of.Offset to len found) sub n _ at (begins_slice ss)
      (assoc (opened (inside sub n) (λ p. p.slice ss) at) number_of _) h

  pub pointed_opens : (m : Mode) (quoted : Bool) (p : Param) (name : Text) (ps : List SubPart)
      → Opens result (of.Subscript ps) mode.Text tildes.Nowhere (use_of.Pointed m quoted p name) n → (f : Outcome Given)
      → (f ≡ (index sub (inside sub n) ps >>= (λ i. element_at name i >>= pointed_found sub (inside sub n) m quoted (out-Param p))) at)
      → Acts result sub f n at
  pointed_opens m quoted p name ps h f e =
      opens result (of.Subscript ps) mode.Text tildes.Nowhere (use_of.Pointed m quoted p name) sub n f at (begins_subscript ps) (e ∙ index_goes ps _) h
