-- Ranges of components and separators, and what they cut out and replace (Package Manager Specification, version
-- manipulation functions).
use Rattle.std.specs.Prelude.{ℕ, zero, suc, ◌+◌, ◌-◌, Bool, true, ◌==◌, ◌&&◌, ◌||◌, not, nat_le, drop, length, List, [], ◌∷◌, ◌++◌, Option, Some, None, if◌then◌else◌}
use Rattle.std.specs.List.{list_all, take_while}
use Rattle.std.specs.Option.{option_map}
use Rattle.eb_bytes.specs.Text.{Text, has_bytes}
use Rattle.byte_class.specs.Class.{is_digit}
use Rattle.version_funcs.specs.Byte.{after_while}
use Rattle.version_funcs.specs.Number.{number}
use Rattle.version_funcs.specs.Pieces.{Piece, Pieces, pieces, joined, joined_rest}

-- ---- ranges

-- from one place to another, or to the last one
pub record Range : Type 0 where
  pub from : ℕ
  pub to : Option ℕ

-- the range whose hyphen stands before this text
abbrev pub open_range : ℕ → Text → Option Range
open_range from [] = Some (record { from = from; to = None })
open_range from (b ∷ t) = if list_all is_digit (b ∷ t) && nat_le from (number (b ∷ t)) then Some (record { from = from; to = Some (number (b ∷ t)) }) else None

-- the range whose first number, if it has one, stands before this text
abbrev pub range_from : Text → Text → Option Range
range_from [] t = None
range_from (d ∷ digits) [] = Some (record { from = number (d ∷ digits); to = Some (number (d ∷ digits)) })
range_from (d ∷ digits) (b ∷ t) = if b == 45 then open_range (number (d ∷ digits)) t else None

-- the range that a text writes as `a`, `a-` or `a-b`
abbrev pub range_of : Text → Option Range
range_of t = range_from (take_while is_digit t) (after_while is_digit t)

-- ---- what is cut out

-- the first components, so many of them, with the separators between them; the whole text where there are fewer
abbrev pub components : ℕ → List Piece → Text
components zero rest = []
components (suc count) [] = []
components (suc zero) (piece ∷ more) = piece.component
components (suc (suc count)) (piece ∷ more) = piece.component ++ (piece.separator ++ components (suc count) more)

-- the components from one place to another, or to the end of the text
abbrev pub cut_rest : ℕ → Option ℕ → List Piece → Text
cut_rest from None rest = joined_rest (drop (from - 1) rest)
cut_rest from (Some to) rest = components (to - (from - 1)) (drop (from - 1) rest)

-- what the range cuts out; from 0 on with the first separator
abbrev pub cut : Range → Pieces → Text
cut r p = (if r.from == 0 then p.first else []) ++ cut_rest r.from r.to p.rest

-- what a range, written as this text, cuts out of a text
abbrev pub cut_text : (range v : Text) → Option Text
cut_text range v = option_map (λ r. cut r (pieces v)) (range_of range)

-- ---- what is replaced

-- a text that replaces the separators in the range
pub record Replacement : Type 0 where
  pub range : Range
  pub text : Text

-- the replacements of words that stand in pairs, a range and a text; none where a range is bad. A last word without
-- another says nothing
abbrev pub with_pair : Option Range → Text → Option (List Replacement) → Option (List Replacement)
with_pair None text more = None
with_pair (Some range) text more = option_map (λ rest. record { range = range; text = text } ∷ rest) more

abbrev pub replacements : List Text → Option (List Replacement)
replacements [] = Some []
replacements (range ∷ []) = Some []
replacements (range ∷ text ∷ more) = with_pair (range_of range) text (replacements more)

abbrev pub reaches : Option ℕ → ℕ → Bool
reaches None place = true
reaches (Some to) place = nat_le place to

-- whether the place of a separator is in the range
abbrev pub is_in : Range → ℕ → Bool
is_in r place = nat_le r.from place && reaches r.to place

-- whether the separator is one that stays: the first or the last one, while it is empty
abbrev pub stays : (place last : ℕ) → Text → Bool
stays place last separator = (place == 0 || place == last) && not (has_bytes separator)

-- the separator at a place, after all the replacements in turn
abbrev pub separator_after : List Replacement → (place last : ℕ) → Text → Text
separator_after [] place last separator = separator
separator_after (r ∷ more) place last separator = separator_after more place last (if is_in r.range place && not (stays place last separator) then r.text else separator)

-- the pieces from this place on, with the replaced separators
abbrev pub replaced_rest : List Replacement → (place last : ℕ) → List Piece → List Piece
replaced_rest all place last [] = []
replaced_rest all place last (piece ∷ more) = record { component = piece.component; separator = separator_after all place last piece.separator } ∷ replaced_rest all (place + 1) last more

abbrev pub replaced : List Replacement → Pieces → Pieces
replaced all p = record { first = separator_after all 0 (length p.rest) p.first; rest = replaced_rest all 1 (length p.rest) p.rest }

-- a text with its separators replaced as the words in pairs say
abbrev pub replaced_text : (pairs : List Text) (v : Text) → Option Text
replaced_text pairs v = option_map (λ all. joined (replaced all (pieces v))) (replacements pairs)
