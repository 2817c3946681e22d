-- A part that is opened is a level behind the others.
use Rattle.std.proofs.Common.{◌≡◌, ℕ, ◌-◌, List, [], ◌∷◌, Result, Ok, Err, refl, sym, ap, ◌∙◌}
use Rattle.eb_syntax.specs.Tree.{GroupPart}
use Rattle.eb_syntax.specs.declared.tree.AP.{AP}
use Rattle.eb_syntax.specs.declared.tree.PW.{PW}
use Rattle.eb_syntax.specs.declared.tree.QPiece.{QPiece}
use Rattle.eb_syntax.specs.declared.tree.SW.{SW}
use Rattle.eb_syntax.specs.declared.tree.SubPart.{SubPart}
use Rattle.shell_state.specs.Outcome.{Doing, Outcome, Faulted, ◌<$>◌, and_then, pure}
use Rattle.shell_state.specs.State.{State}
use Rattle.shell_state.specs.declared.stop.Stop.{Stop}
use Rattle.shell_state.specs.declared.stop.Stop.TheVariants as stop
use Rattle.word_meaning.specs.Marks.{Given, given}
use Rattle.word_meaning.specs.Words.{Parts, arith, double, enclosed, group, inside, opened, operand, parts_in, quoted, slice, subscript}
use Rattle.word_meaning.specs.declared.mode.Mode.{Mode}
use Rattle.word_meaning.specs.declared.mode.Mode.TheVariants as mode
use Rattle.word_meaning.specs.declared.mode.Tildes.{Tildes}
use Rattle.word_meaning.specs.declared.mode.Tildes.TheVariants as tildes
use Rattle.expand_parts.specs.Acts.{Acts, Opens, level_of}
use Rattle.expand_parts.specs.Rest.{Sub, acted, ended, from_here}
use Rattle.expand_parts.specs.declared.level.Act.{Act}
use Rattle.expand_parts.specs.declared.level.Parts.{Parts as Open}
use Rattle.expand_parts.specs.declared.level.Parts.TheVariants as of
use Rattle.expand_parts.specs.declared.level.Use.{Use}
use Rattle.expand_parts.specs.declared.level.Use.TheVariants as use_of
use Rattle.expand_parts.proofs.Inside.{opened_inside, opened_nowhere}

-- what stands in a part of each kind; pieces stand in no part
abbrev pub stands : Open → Mode → Tildes → Parts → Doing Given
stands (of.Pieces ps) m w p = pure (given [])
stands (of.Quoted qs) m w p = p.quoted m qs
stands (of.Operand ws) m w p = p.operand m w ws
stands (of.Slice ss) m w p = p.slice ss
stands (of.Arith aps) m w p = p.arith aps
stands (of.Subscript ps) m w p = p.subscript ps
stands (of.Group ps) m w p = p.group m ps

-- the parts of a level that begins are what stands in it
abbrev pub Begins : Open → Type 0
Begins o =
    (sub : Sub) (n : ℕ) (m : Mode) (w : Tildes) (used : Use) (at : State)
    → from_here sub n (level_of o m w used) (given []) at ≡ and_then (stands o m w (parts_in sub (inside sub (n - 1))) at) (ended sub (inside sub n) used)

pub begins_quoted : (qs : List QPiece) → Begins (of.Quoted qs)
unfolding quoted
begins_quoted qs sub n m w used at = refl

pub begins_operand : (ws : List PW) → Begins (of.Operand ws)
unfolding operand
begins_operand ws sub n m w used at = refl

pub begins_slice : (ss : List SW) → Begins (of.Slice ss)
unfolding slice
begins_slice ss sub n m w used at = refl

pub begins_arith : (aps : List AP) → Begins (of.Arith aps)
unfolding arith
begins_arith aps sub n m w used at = refl

pub begins_subscript : (ps : List SubPart) → Begins (of.Subscript ps)
unfolding subscript
begins_subscript ps sub n m w used at = refl

pub begins_group : (ps : List GroupPart) → Begins (of.Group ps)
unfolding group
begins_group ps sub n m w used at = refl

-- a part that is opened comes to its level, where one more may be open
pub opens : (result : Result Act Stop) (o : Open) (m : Mode) (w : Tildes) (used : Use) (sub : Sub) (n : ℕ) (f : Outcome Given) (at : State)
    → Begins o → f ≡ and_then (opened (inside sub n) (stands o m w) at) (ended sub (inside sub n) used)
    → Opens result o m w used n → Acts result sub f n at
opens (Ok a) o m w used sub n f at b e h =
    e ∙ ap (λ x. and_then x (ended sub (inside sub n) used)) (opened_inside sub n (stands o m w) at h.0)
    ∙ sym (b sub n m w used at) ∙ ap (λ c. acted sub n c at) (sym h.1)
opens (Err (stop.Fault why)) o m w used sub n f at b e h =
    e ∙ ap (λ x. and_then x (ended sub (inside sub n) used)) (opened_nowhere sub n (stands o m w) at h.0)
    ∙ ap (λ c. Faulted c at.left at.host.asked) (sym h.1)
opens (Err stop.Failed) o m w used sub n f at b e h = absurd h
opens (Err stop.Memory) o m w used sub n f at b e h = tt

-- ---- each kind

module _ (result : Result Act Stop) (sub : Sub) (n : ℕ) (at : State) where
  pub quotes_open : (qs : List QPiece) (m : Mode) → Opens result (of.Quoted qs) m tildes.Nowhere use_of.Quotes n
      → Acts result sub (double sub (inside sub n) m qs at) n at
  quotes_open qs m h = opens result (of.Quoted qs) m tildes.Nowhere use_of.Quotes sub n _ at (begins_quoted qs) refl h

  pub group_opens : (b : ℕ) (ps : List GroupPart) (m : Mode) → Opens result (of.Group ps) m tildes.Nowhere (use_of.Group b) n
      → Acts result sub ((enclosed (b ∷ 40 ∷ []) (41 ∷ []) <$> opened (inside sub n) (λ p. p.group m ps)) at) n at
  group_opens b ps m h = opens result (of.Group ps) m tildes.Nowhere (use_of.Group b) sub n _ at (begins_group ps) refl h

  pub parenthesis_opens : (aps : List AP) → Opens result (of.Arith aps) mode.Text tildes.Nowhere use_of.Parenthesis n
      → Acts result sub ((enclosed (40 ∷ []) (41 ∷ []) <$> opened (inside sub n) (λ p. p.arith aps)) at) n at
  parenthesis_opens aps h = opens result (of.Arith aps) mode.Text tildes.Nowhere use_of.Parenthesis sub n _ at (begins_arith aps) refl h

  pub bracket_opens : (ps : List SubPart) → Opens result (of.Subscript ps) mode.Text tildes.Nowhere use_of.Bracket n
      → Acts result sub ((enclosed (91 ∷ []) (93 ∷ []) <$> opened (inside sub n) (λ p. p.subscript ps)) at) n at
  bracket_opens ps h = opens result (of.Subscript ps) mode.Text tildes.Nowhere use_of.Bracket sub n _ at (begins_subscript ps) refl h
