-- The literals of arrays (Bash Reference Manual, "Arrays").
use Rattle.std.specs.Prelude.{ℕ, ℤ, Bool, false, ◌&&◌, ◌==◌, not, List, [], ◌∷◌, filter, map, Option, Some, None, if◌then◌else◌}
use Rattle.std.specs.Option.{option_map}
use Rattle.bash_assign.specs.declared.literal.Element.{Element}
use Rattle.bash_cond.specs.Arithmetic.{evaluates}
use Rattle.eb_bytes.specs.Text.{Text}
use Rattle.eb_syntax.specs.declared.tree.Items.{Items}
use Rattle.eb_syntax.specs.declared.tree.Piece.{Piece}
use Rattle.eb_syntax.specs.declared.tree.Word.{Word, out-Word}
use Rattle.shell_state.specs.Outcome.{Doing, ◌>>=◌, ◌<$>◌}
use Rattle.word_meaning.specs.Layers.{is_continuation, plain_byte}
use Rattle.word_meaning.specs.Lists.{fields, row_of}
use Rattle.word_meaning.specs.Texts.{text_of_pieces}
use Rattle.word_meaning.specs.declared.mode.Tildes.TheVariants as tildes

-- ---- words

-- the pieces of a subscript, and those of its value
abbrev pub Subscripted : Type 0
Subscripted = List Piece × List Piece

-- the bytes of words: words of their own that stand next to each other, or `[..]=..`
pub data Entry : Type 0 where
  Words : List Word → Entry
  At : (subscript : List Piece) → (value : List Piece) → Entry

abbrev pub is_byte : ℕ → Piece → Bool
is_byte b p = is_that (plain_byte p)
  where
    is_that : Option ℕ → Bool
    is_that None = false
    is_that (Some c) = c == b

abbrev pub with_piece : Piece → Option Subscripted → Option Subscripted
with_piece p found = option_map (λ s. (p ∷ s.0, s.1)) found

-- the pieces before the first unquoted `]=`, and those after it
abbrev pub before_value : List Piece → Option Subscripted
before_value [] = None
before_value (p ∷ []) = None
before_value (p ∷ q ∷ ps) =
    if is_byte 93 p && is_byte 61 q then Some ([], ps) else with_piece p (before_value (q ∷ ps))

-- a word that begins with an unquoted `[` and has an unquoted `]=`
abbrev pub subscripted_pieces : List Piece → Option Subscripted
subscripted_pieces [] = None
subscripted_pieces (p ∷ ps) = if is_byte 91 p then before_value ps else None

-- a backslash and a newline stand for nothing
abbrev pub subscripted_word : Word → Option Subscripted
subscripted_word w = subscripted_pieces (filter (λ p. not (is_continuation p)) (out-Word w).pieces)

abbrev pub with_word : Word → List Entry → List Entry
with_word w [] = Words (w ∷ []) ∷ []
with_word w (Words ws ∷ es) = Words (w ∷ ws) ∷ es
with_word w (At subscript value ∷ es) = Words (w ∷ []) ∷ At subscript value ∷ es

abbrev pub with_entry : Word → Option Subscripted → List Entry → List Entry
with_entry w None es = with_word w es
with_entry w (Some s) es = At s.0 s.1 ∷ es

-- the entries of a literal: words without a subscript that stand next to each other are one list of words
abbrev pub entries : List Word → List Entry
entries [] = []
entries (w ∷ ws) = with_entry w (subscripted_word w) (entries ws)

-- ---- elements

abbrev pub with_subscript : ℤ → Text → Element
with_subscript i t = record { at = Some i; text = t }

abbrev pub without_subscript : Text → Element
without_subscript t = record { at = None; text = t }

module _ (sub : Items → Doing Text) where
  -- a list of words gives its fields; a subscript is evaluated before its value, which is an assigned value
  abbrev pub entry_elements : Entry → Doing (List Element)
  entry_elements (Words ws) = map without_subscript <$> fields sub ws
  entry_elements (At subscript value) =
      text_of_pieces sub tildes.Nowhere subscript >>= (λ t. evaluates t >>= (λ i. (λ v. with_subscript i v ∷ []) <$> text_of_pieces sub tildes.InValue value))

  -- the elements of a literal, in order
  unfoldable pub elements : List Word → Doing (List Element)
  elements ws = row_of entry_elements (entries ws)
