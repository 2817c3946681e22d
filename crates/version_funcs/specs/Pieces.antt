-- A text as components and separators (Package Manager Specification, version manipulation functions).
use Rattle.std.specs.Prelude.{ℕ, Bool, false, ◌&&◌, ◌||◌, List, [], ◌∷◌, ◌++◌, if◌then◌else◌}
use Rattle.eb_bytes.specs.Text.{Text}
use Rattle.byte_class.specs.Class.{is_digit, is_letter}
use Rattle.version_funcs.specs.Byte.{is_separator}

-- ---- bytes

-- whether two bytes stand in one component: both are digits, or both are letters
abbrev pub are_alike : ℕ → ℕ → Bool
are_alike a b = is_digit a && is_digit b || is_letter a && is_letter b

-- ---- pieces

-- a component, and the separator after it, which may be empty
pub record Piece : Type 0 where
  pub component : Text
  pub separator : Text

-- separator 0, and the components from the first on, each with its separator
pub record Pieces : Type 0 where
  pub first : Text
  pub rest : List Piece

abbrev pub joined_rest : List Piece → Text
joined_rest [] = []
joined_rest (piece ∷ more) = piece.component ++ (piece.separator ++ joined_rest more)

-- the text of the pieces
abbrev pub joined : Pieces → Text
joined p = p.first ++ joined_rest p.rest

-- whether this byte stands in one component with what it stands in front of
abbrev pub goes_on : ℕ → Text → Bool
goes_on b [] = false
goes_on b (c ∷ component) = are_alike b c

-- the components after this byte of a component, with the byte: it leads the first one, or is one by itself
abbrev pub led_by : ℕ → Text → List Piece → List Piece
led_by b [] (piece ∷ more) = if goes_on b piece.component then record { component = b ∷ piece.component; separator = piece.separator } ∷ more else record { component = b ∷ []; separator = [] } ∷ piece ∷ more
led_by b separator rest = record { component = b ∷ []; separator = separator } ∷ rest

-- the pieces of a text: its components are the maximal runs of digits or of letters
abbrev pub pieces : Text → Pieces
pieces [] = record { first = []; rest = [] }
pieces (b ∷ t) = if is_separator b then record { first = b ∷ (pieces t).first; rest = (pieces t).rest } else record { first = []; rest = led_by b (pieces t).first (pieces t).rest }
