-- Components as maximal runs.
use Rattle.std.specs.Prelude.{Bool, true, ◌&&◌, ◌||◌, not, List, [], ◌∷◌, ◌++◌}
use Rattle.std.specs.List.{list_all}
use Rattle.eb_bytes.specs.Text.{Text, has_bytes}
use Rattle.byte_class.specs.Class.{is_digit, is_letter}
use Rattle.version_funcs.specs.Byte.{is_separator}
use Rattle.version_funcs.specs.Pieces.{Piece}

-- whether a text is some digits, or some letters
abbrev pub is_component : Text → Bool
is_component t = has_bytes t && (list_all is_digit t || list_all is_letter t)

-- whether a piece is kept from the next one: by its separator, or since the two components make none together
abbrev pub is_apart : Piece → List Piece → Bool
is_apart piece [] = true
is_apart piece (next ∷ more) = has_bytes piece.separator || not (is_component (piece.component ++ next.component))

-- whether these are components and separators, of which no two components could be one
abbrev pub are_maximal : List Piece → Bool
are_maximal [] = true
are_maximal (piece ∷ more) = is_component piece.component && (list_all is_separator piece.separator && (is_apart piece more && are_maximal more))
