-- What printf prints of a format and words (Bash Reference Manual, "Bash Builtin Commands", `printf`).
use Rattle.std.specs.Prelude.{ℕ, zero, suc, Bool, true, false, ◌&&◌, nat_lt, Option, Some, None, List, [], ◌∷◌, ◌++◌, drop, length, if◌then◌else◌}
use Rattle.eb_bytes.specs.Text.{Text}
use Rattle.printf_format.specs.declared.conversion.Conversion.{Conversion}
use Rattle.printf_format.specs.declared.escapes.Ending.{Ending}
use Rattle.printf_format.specs.declared.escapes.Ending.TheVariants as ending
use Rattle.printf_format.specs.declared.layout.Layout.{Layout}
use Rattle.printf_format.specs.declared.part.Part.{Part}
use Rattle.printf_format.specs.declared.part.Part.TheVariants as part
use Rattle.printf_format.specs.Conversions.{parts}
use Rattle.printf_format.specs.Fields.{Printed, bad_use, field_of, goes_on, shown}
use Rattle.printf_format.specs.Words.{first, layout, left_by_layout}

-- what a use of a format prints, how it ends, and the words that are left
pub record Used : Type 0 where
  pub text : Text
  pub ending : Ending
  pub rest : List Text

-- something printed before
abbrev pub onto : Text → Used → Used
onto t u = record u { text = t ++ u.text }

-- something that ends there, with these words left
abbrev pub used : Printed → List Text → Used
used p ws = record { text = p.text; ending = p.ending; rest = ws }

-- goes on with the words that are left, if it did not end
abbrev pub after_end : Ending → Text → List Text → (List Text → Used) → Used
after_end ending.Through t ws next = onto t (next ws)
after_end e t ws next = record { text = t; ending = e; rest = ws }

abbrev pub and_then : Used → (List Text → Used) → Used
and_then u next = after_end u.ending u.text u.rest next

-- a conversion that has a layout takes one word more
abbrev pub with_layout : Conversion → Option Layout → List Text → Used
with_layout c None ws = used bad_use ws
with_layout c (Some l) ws = used (field_of c.kind l (first ws)) (drop 1 ws)

-- a conversion takes the words of its width and its precision, and one more
abbrev pub converted : Conversion → List Text → Used
converted c ws = with_layout c (layout c ws) (left_by_layout c ws)

-- a part of the format
abbrev pub part_used : Part → List Text → Used
part_used (part.Byte b) ws = used (goes_on (shown (b ∷ []))) ws
part_used (part.Field c) ws = converted c ws
part_used part.BadUse ws = used bad_use ws
part_used part.Quoting ws = record { text = []; ending = ending.Quoting; rest = ws }
part_used part.End ws = used (goes_on []) ws

-- one use of the parts of a format, from left to right
abbrev pub used_once : List Part → List Text → Used
used_once [] ws = used (goes_on []) ws
used_once (p ∷ ps) ws = and_then (part_used p ws) (used_once ps)

-- whether words remain, fewer than so many
abbrev pub is_used_again : ℕ → List Text → Bool
is_used_again before rest = nat_lt 0 (length rest) && nat_lt (length rest) before

-- at most so many more uses after this one: while words remain, of which the last use took some
abbrev pub used_again : ℕ → List Part → List Text → Used
used_again zero ps ws = used_once ps ws
used_again (suc n) ps ws =
    and_then (used_once ps ws) (λ rest.
    if is_used_again (length ws) rest then used_again n ps rest else used (goes_on []) rest)

-- the uses of a format: each but the first one begins with fewer words
unfoldable pub formatted : Text → List Text → Used
formatted format ws = used_again (length ws) (parts format) ws
