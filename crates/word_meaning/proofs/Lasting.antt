-- What every expansion keeps: the steps that are left never rise, and no name that was asked is lost.
use Rattle.std.proofs.Common.{ℕ, List, ◌++◌, refl, arith}
use Rattle.eb_bytes.specs.Text.{Text}
use Rattle.eb_syntax.specs.Tree.{ArithText, HereText, Sub}
use Rattle.eb_syntax.specs.declared.tree.Items.{Items}
use Rattle.eb_syntax.specs.declared.tree.Word.{Word}
use Rattle.shell_state.specs.Outcome.{Doing}
use Rattle.word_meaning.specs.Laws.{Lasts, SubstitutionsLast}
use Rattle.word_meaning.specs.Lists.{fields}
use Rattle.word_meaning.specs.Literals.{elements}
use Rattle.word_meaning.specs.Texts.{arith_text, assigned, here_text, pattern, subscript_text, text}
use Rattle.word_meaning.proofs.Respected.{SideBySide, side_by_side}
use Rattle.word_meaning.proofs.WordsKept as words

abbrev Always : List Text → Type 0
Always names = Unit {0}

always : (xs ys : List Text) → Always (xs ++ ys) → Always xs
always xs ys w = tt

-- a part beside itself
beside : {A : Type 0} (m n : ℕ) (p : Doing A) → Lasts p → SideBySide Always always m n A p p
beside m n p l at le lf = record { later = l at; same = λ w. refl }

alone : {A : Type 0} (p : Doing A) → ((m n : ℕ) → SideBySide Always always m n A p p) → Lasts p
alone p k at = (k at.left at.left at (omega arith) (omega arith)).later

module _ (sub : Items → Doing Text) (l : SubstitutionsLast sub) where
  each_beside : (m n : ℕ) (i : Items) → SideBySide Always always m n Text (sub i) (sub i)
  each_beside m n i = beside m n (sub i) (l i)

  pub fields_last : (ws : List Word) → Lasts (fields sub ws)
  fields_last ws = alone (fields sub ws) (λ m n. words.fields_part (SideBySide Always always m n) (side_by_side Always always m n) sub sub (each_beside m n) ws)

  pub words_last : (w : Word) → Lasts (assigned sub w) × Lasts (text sub w) × Lasts (pattern sub w)
  words_last w = (
    alone (assigned sub w) (λ m n. words.assigned_part (SideBySide Always always m n) (side_by_side Always always m n) sub sub (each_beside m n) w),
    alone (text sub w) (λ m n. words.text_part (SideBySide Always always m n) (side_by_side Always always m n) sub sub (each_beside m n) w),
    alone (pattern sub w) (λ m n. words.pattern_part (SideBySide Always always m n) (side_by_side Always always m n) sub sub (each_beside m n) w),
  )

  pub texts_last : (h : HereText) (aps : ArithText) (s : Sub) → Lasts (here_text sub h) × Lasts (arith_text sub aps) × Lasts (subscript_text sub s)
  texts_last h aps s = (
    alone (here_text sub h) (λ m n. words.here_part (SideBySide Always always m n) (side_by_side Always always m n) sub sub (each_beside m n) h),
    alone (arith_text sub aps) (λ m n. words.arith_part (SideBySide Always always m n) (side_by_side Always always m n) sub sub (each_beside m n) aps),
    alone (subscript_text sub s) (λ m n. words.subscript_part (SideBySide Always always m n) (side_by_side Always always m n) sub sub (each_beside m n) s),
  )

  pub elements_last : (ws : List Word) → Lasts (elements sub ws)
  elements_last ws = alone (elements sub ws) (λ m n. words.elements_part (SideBySide Always always m n) (side_by_side Always always m n) sub sub (each_beside m n) ws)
