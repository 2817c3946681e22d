-- What the code's values stand for, and the parts that it reads.
use Rattle.std.specs.Prelude.{ℕ, Bool, List, [], ◌∷◌, min, slice_index, if◌then◌else◌}
use Rattle.std.specs.List.{take_while}
use Rattle.std.specs.Option.{option_map}
use Rattle.eb_bytes.specs.Text.{Text}
use Rattle.version_funcs.specs.declared.pieces.Part.{Part}
use Rattle.version_funcs.specs.declared.range.Places.{Places}
use Rattle.version_funcs.specs.declared.replace.Swap.{Swap}
use Rattle.byte_class.specs.Class.{is_digit, is_letter}
use Rattle.version_funcs.specs.Byte.{after_while}
use Rattle.version_funcs.specs.Pieces.{Piece}
use Rattle.version_funcs.specs.Range.{Range, Replacement}

-- the bytes that may stand after this one in its component
abbrev pub fellows : ℕ → ℕ → Bool
fellows b = if is_digit b then is_digit else is_letter

-- the component that a text begins with
abbrev pub leading_component : Text → Text
leading_component t = take_while (fellows (slice_index t 0)) t

abbrev pub after_component : Text → Text
after_component t = after_while (fellows (slice_index t 0)) t

abbrev pub seen_piece : Part → Piece
seen_piece p = record { component = p.component.now; separator = p.separator.now }

abbrev pub seen_range : Places → Range
seen_range p = record { from = p.from; to = p.to }

-- the range with each number above this one taken as this one
abbrev pub clamped : ℕ → Range → Range
clamped above r = record { from = min r.from above; to = option_map (λ to. min to above) r.to }

abbrev pub seen_swap : Swap → Replacement
seen_swap s = record { range = seen_range s.places; text = s.text.now }

abbrev pub clamped_each : ℕ → List Replacement → List Replacement
clamped_each above [] = []
clamped_each above (r ∷ more) = record { range = clamped above r.range; text = r.text } ∷ clamped_each above more
