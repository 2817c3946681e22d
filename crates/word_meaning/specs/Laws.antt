-- What holds of every expansion.
use Rattle.std.specs.Prelude.{List}
use Rattle.eb_bytes.specs.Text.{Text}
use Rattle.eb_syntax.specs.Tree.{ArithText, HereText, Sub}
use Rattle.eb_syntax.specs.declared.tree.Items.{Items}
use Rattle.eb_syntax.specs.declared.tree.Word.{Word}
use Rattle.shell_state.specs.Host.{Later}
use Rattle.shell_state.specs.Outcome.{Doing, asked_of, left_of}
use Rattle.shell_state.specs.State.{State}
use Rattle.word_meaning.specs.Closing.{Closes}
use Rattle.word_meaning.specs.Lists.{fields}
use Rattle.word_meaning.specs.Literals.{elements}
use Rattle.word_meaning.specs.Texts.{arith_text, assigned, here_text, pattern, subscript_text, text}

-- a part of a run gives no step back, and loses no name that was asked
abbrev pub Lasts : {A : Type 0} → Doing A → Type 0
Lasts {A} p = (at : State) → Later at (left_of (p at)) (asked_of (p at))

-- each substitution does so
abbrev pub SubstitutionsLast : (Items → Doing Text) → Type 0
SubstitutionsLast sub = (i : Items) → Lasts (sub i)

-- then a list of words does
abbrev pub FieldsLast : Type 0
FieldsLast = (sub : Items → Doing Text) → SubstitutionsLast sub → (ws : List Word) → Lasts (fields sub ws)

-- and each word that gives one text
abbrev pub WordsLast : Type 0
WordsLast =
    (sub : Items → Doing Text) → SubstitutionsLast sub → (w : Word)
    → Lasts (assigned sub w) × Lasts (text sub w) × Lasts (pattern sub w)

-- and each other text that is expanded
abbrev pub TextsLast : Type 0
TextsLast =
    (sub : Items → Doing Text) → SubstitutionsLast sub → (h : HereText) (aps : ArithText) (s : Sub)
    → Lasts (here_text sub h) × Lasts (arith_text sub aps) × Lasts (subscript_text sub s)

-- and the literal of an array
abbrev pub ElementsLast : Type 0
ElementsLast = (sub : Items → Doing Text) → SubstitutionsLast sub → (ws : List Word) → Lasts (elements sub ws)

-- each substitution closes what it opens
abbrev pub SubstitutionsClose : (Items → Doing Text) → Type 0
SubstitutionsClose sub = (i : Items) → Closes (sub i)

-- then every expansion does: those of words,
abbrev pub ExpansionsClose : Type 0
ExpansionsClose =
    (sub : Items → Doing Text) → SubstitutionsClose sub → (ws : List Word) (w : Word)
    → Closes (fields sub ws) × Closes (elements sub ws) × Closes (assigned sub w) × Closes (text sub w) × Closes (pattern sub w)

-- and those of other texts
abbrev pub TextsClose : Type 0
TextsClose =
    (sub : Items → Doing Text) → SubstitutionsClose sub → (h : HereText) (aps : ArithText) (s : Sub)
    → Closes (here_text sub h) × Closes (arith_text sub aps) × Closes (subscript_text sub s)
