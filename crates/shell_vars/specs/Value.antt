-- Values, and what assignments make of them (Bash Reference Manual, "Shell Parameters" and "Arrays").
use Rattle.std.specs.Prelude.{ℕ, ℤ, pos, ◌+◌, Bool, [], ◌++◌, length, nat_le, unwrap_or, Option, Some, None, Result, Ok, Err, if◌then◌else◌}
use Rattle.std.specs.List.{list_all}
use Rattle.std.specs.FinMap as map
use Rattle.eb_bytes.specs.Text.{Text}
use Rattle.shell_vars.specs.declared.value.Value.{Value}
use Rattle.shell_vars.specs.declared.value.Value.TheVariants as value
use Rattle.shell_vars.specs.declared.error.VarErr.{VarErr}
use Rattle.shell_vars.specs.declared.error.VarErr.TheVariants.{BadSubscript, ValueSize}
use Rattle.shell_vars.specs.Elements.{Elements, joined, can_join, index_of, elements_size}

-- the elements of a value: a text is its own element 0
abbrev pub elements_of : Option Value → Elements
elements_of None = map.empty
elements_of (Some (value.Text t)) = map.insert map.empty 0 t
elements_of (Some (value.Array es)) = es

-- for each element its length and 16
abbrev pub value_size : Option Value → ℕ
value_size None = 0
value_size (Some (value.Text t)) = length t + 16
value_size (Some (value.Array es)) = elements_size es

-- whether a text has at most 1,048,576 bytes
abbrev pub is_short : Text → Bool
is_short t = nat_le (length t) 1048576

-- whether a text value, or each element of an array by itself, has at most so many
abbrev pub are_short : Value → Bool
are_short (value.Text t) = is_short t
are_short (value.Array es) = list_all (λ e. is_short e.1) (map.entries es)

-- a value, where its texts are short enough
abbrev pub checked : Value → Result Value VarErr
checked v = if are_short v then Ok v else Err ValueSize

-- with this text as the element at an index
abbrev pub with_element : Option ℕ → Text → Option Value → Result Value VarErr
with_element None t old = Err BadSubscript
with_element (Some i) t old = if is_short t then Ok (value.Array (map.insert (elements_of old) i t)) else Err ValueSize

-- with this text as the element that a subscript means
abbrev pub element_set : ℤ → Text → Option Value → Result Value VarErr
element_set at t old = with_element (index_of (elements_of old) at) t old

-- the element at an index, if there is one
abbrev pub element_in : Option ℕ → Option Value → Result (Option Text) VarErr
element_in None v = Err BadSubscript
element_in (Some i) v = Ok (map.get (elements_of v) i)

-- the element that a subscript means, if there is one; without a subscript it is element 0
abbrev pub element : Option ℤ → Option Value → Result (Option Text) VarErr
element at v = element_in (index_of (elements_of v) (unwrap_or at (pos 0))) v

-- a text given to a name: it is the element 0 of an array, and else the value
abbrev pub text_given : Text → Option Value → Result Value VarErr
text_given t None = checked (value.Text t)
text_given t (Some (value.Text old)) = checked (value.Text t)
text_given t (Some (value.Array es)) = with_element (Some 0) t (Some (value.Array es))

-- a text given to a name, or to the element that a subscript means
abbrev pub assigned : Option ℤ → Text → Option Value → Result Value VarErr
assigned None t old = text_given t old
assigned (Some at) t old = element_set at t old

-- with these elements after the greatest index
abbrev pub array_joined : Elements → Elements → Result Value VarErr
array_joined es more =
    if can_join es more
    then (if are_short (value.Array more) then Ok (value.Array (joined es more)) else Err ValueSize)
    else Err BadSubscript

-- with a value appended: texts are joined, a text is added to element 0 of an array, and the elements of an array come
-- after the greatest index; where there was no value, it is this value
abbrev pub appended : Value → Option Value → Result Value VarErr
appended v None = checked v
appended (value.Text u) (Some (value.Text t)) = checked (value.Text (t ++ u))
appended (value.Text u) (Some (value.Array es)) = with_element (Some 0) (unwrap_or (map.get es 0) [] ++ u) (Some (value.Array es))
appended (value.Array more) (Some old) = array_joined (elements_of (Some old)) more

-- without the element at an index; a value that has none there stays, a text included
abbrev pub without_element : Option ℕ → Option Value → Result (Option Value) VarErr
without_element None old = Err BadSubscript
without_element (Some i) old =
    Ok (if map.contains_key (elements_of old) i then Some (value.Array (map.remove (elements_of old) i)) else old)

-- without the element that a subscript means
abbrev pub element_unset : ℤ → Option Value → Result (Option Value) VarErr
element_unset at old = without_element (index_of (elements_of old) at) old
