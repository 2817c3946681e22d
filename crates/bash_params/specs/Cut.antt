-- Substrings and slices (Bash Reference Manual, "Shell Parameter Expansion").
use Rattle.std.specs.Prelude.{ℕ, ℤ, pos, negsuc, ◌+◌, ◌-◌, nat_le, nat_lt, List, [], length, take, drop, map, filter, Option, Some, None, Result, Ok, Err, if◌then◌else◌}
use Rattle.std.specs.FinMap as finite
use Rattle.eb_bytes.specs.Text.{Text}
use Rattle.shell_vars.specs.Elements.{Elements, next_index}
use Rattle.bash_params.specs.declared.error.ParamErr.{ParamErr}
use Rattle.bash_params.specs.declared.error.ParamErr.TheVariants.{BadSubstitution}

-- the place that an offset means where there are so many: a negative one counts from the end, and means none where it
-- passes the start
abbrev pub place : ℕ → ℤ → Option ℕ
place size (pos n) = Some n
place size (negsuc n) = if nat_lt n size then Some (size - (n + 1)) else None

-- ---- of a text

-- a text up to a place; refused, where it is none
abbrev pub up_to : Option ℕ → Text → Result Text ParamErr
up_to None t = Err BadSubstitution
up_to (Some n) t = Ok (take n t)

-- what a length leaves of the text from the offset on: a negative one is an end counted from the text's end, which may
-- not lie before the offset
abbrev pub cut : Option ℤ → Text → Result Text ParamErr
cut None t = Ok t
cut (Some len) t = up_to (place (length t) len) t

-- nothing is cut, whatever the length is, where the offset passes the start
abbrev pub cut_at : Option ℕ → Option ℤ → Text → Result Text ParamErr
cut_at None len t = Ok []
cut_at (Some i) len t = cut len (drop i t)

abbrev pub substring : ℤ → Option ℤ → Text → Result Text ParamErr
substring from len t = cut_at (place (length t) from) len t

-- ---- of elements

-- at most so many texts; a negative length is refused
abbrev pub limited : Option ℤ → List Text → Result (List Text) ParamErr
limited None ts = Ok ts
limited (Some (pos n)) ts = Ok (take n ts)
limited (Some (negsuc n)) ts = Err BadSubstitution

-- the texts of the elements whose index is at least this one; none, where the offset passes the start
abbrev pub texts_from : Option ℕ → List (ℕ × Text) → List Text
texts_from None es = []
texts_from (Some i) es = map (λ e. e.1) (filter (λ e. nat_le i e.0) es)

-- an offset counts from one more than the greatest index where it is negative
abbrev pub sliced : ℤ → Option ℤ → Elements → Result (List Text) ParamErr
sliced from len es = limited len (texts_from (place (next_index es) from) (finite.entries es))

-- the texts of a list from a place on; none, where the offset passes the start
abbrev pub list_from : Option ℕ → List Text → List Text
list_from None ts = []
list_from (Some i) ts = drop i ts

abbrev pub list_sliced : ℤ → Option ℤ → List Text → Result (List Text) ParamErr
list_sliced from len ts = limited len (list_from (place (length ts) from) ts)
