-- Parameters: what a reference finds (Bash Reference Manual, "Shell Parameters", "Special Parameters", "Arrays").
use Rattle.std.specs.Prelude.{ℕ, zero, suc, ℤ, Bool, true, false, not, ◌==◌, List, [], ◌∷◌, codes, decimal, filter, length, slice_get, take, unwrap_or, Option, Some, None, Result, Ok, Err, if◌then◌else◌}
use Rattle.std.specs.FinMap as finite
use Rattle.std.specs.Str.Parse.{digits_value}
use Rattle.eb_bytes.specs.Text.{Text}
use Rattle.eb_syntax.specs.Tree.{Ref}
use Rattle.eb_syntax.specs.declared.parts.Blank.{Blank}
use Rattle.eb_syntax.specs.declared.parts.Blank.TheVariants as blank
use Rattle.eb_syntax.specs.declared.parts.RefOf.TheVariants as ref
use Rattle.eb_syntax.specs.declared.tree.AP.TheOpen.{SubPart-F}
use Rattle.eb_syntax.specs.declared.tree.SubPart.{SubPart, out-SubPart}
use Rattle.shell_state.specs.Faults.{variable_fault}
use Rattle.shell_state.specs.Outcome.{Doing, Ended, ◌>>=◌, ◌>>◌, pure, refuse}
use Rattle.shell_state.specs.State.{State}
use Rattle.shell_state.specs.declared.fault.Fault.TheVariants as fault
use Rattle.shell_vars.specs.Calls as call
use Rattle.shell_vars.specs.Elements.{Elements}
use Rattle.shell_vars.specs.Refused.{is_refused}
use Rattle.shell_vars.specs.Value.{elements_of}
use Rattle.shell_vars.specs.declared.error.VarErr.{VarErr}
use Rattle.word_meaning.specs.Layers.{SubPartLayer, is_continuation, plain_byte}
use Rattle.word_meaning.specs.Marks.{together}

-- a part that only looks at the state
abbrev pub seen : {A : Type 0} → (State → A) → Doing A
seen look = λ at. Ended (look at) at

-- ---- values

-- the text of a variable, or of element 0 of an array   ("Arrays")
abbrev pub value_named : Text → State → Option Text
value_named name at = finite.get (elements_of (call.get name at.store)) 0

-- blank, tab and newline, where IFS is unset   ("Word Splitting")
abbrev pub ifs : State → Text
ifs at = unwrap_or (value_named (codes "IFS") at) (32 ∷ 9 ∷ 10 ∷ [])

-- what `*` joins with: nothing, where IFS is empty   ("Special Parameters", *)
abbrev pub first_of_ifs : State → Text
first_of_ifs at = take 1 (ifs at)

-- `$0`   ("Special Parameters", 0)
abbrev pub shell_name : Text
shell_name = codes "ebuild"

-- a positional parameter by its number   ("Positional Parameters")
abbrev pub positional : ℕ → State → Option Text
positional zero at = Some shell_name
positional (suc n) at = slice_get at.args n

-- ---- what a reference finds

-- the variable, or the element of it, that `=` gives a value to
pub record Place : Type 0 where
  pub name : Text
  pub index : Option ℤ

-- the elements of a list, as a slice takes them
pub data Source : Type 0 where
  Array : Elements → Source
  Arguments : List Text → Source

-- one value, or none, and where it stands; or a list, of `*` or of `@`
pub data Found : Type 0 where
  One : Option Text → Option Place → Found
  Many : (star : Bool) → Source → Found

-- the texts of a list, in order
abbrev pub texts : Source → List Text
texts (Array es) = finite.values es
texts (Arguments ts) = ts

-- ---- subscripts

-- a backslash and a newline in a subscript stand for nothing
abbrev pub blank_is_nothing : Blank → Bool
blank_is_nothing blank.Space = false
blank_is_nothing blank.Tab = false
blank_is_nothing blank.Continuation = true

abbrev pub part_is_nothing : SubPartLayer → Bool
part_is_nothing (SubPart-F.Sub parts) = false
part_is_nothing (SubPart-F.Blank b) = blank_is_nothing b
part_is_nothing (SubPart-F.SubPart::Piece p) = is_continuation p

abbrev pub byte_of_part : SubPartLayer → Option ℕ
byte_of_part (SubPart-F.Sub parts) = None
byte_of_part (SubPart-F.Blank b) = None
byte_of_part (SubPart-F.SubPart::Piece p) = plain_byte p

abbrev pub star_of_byte : Option ℕ → Option Bool
star_of_byte None = None
star_of_byte (Some b) = if b == 64 then Some false else (if b == 42 then Some true else None)

abbrev pub star_of_parts : List SubPart → Option Bool
star_of_parts (p ∷ []) = star_of_byte (byte_of_part (out-SubPart p))
star_of_parts parts = None

-- whether a subscript is `*`, or `@`; none, where it is an expression   ("Arrays")
abbrev pub star_of : List SubPart → Option Bool
star_of parts = star_of_parts (filter (λ p. not (part_is_nothing (out-SubPart p))) parts)

-- ---- references

-- a reference as it is written, without its subscript
abbrev pub name_of : Ref → Text
name_of (ref.Name x sub) = x
name_of (ref.Digits digits) = digits
name_of (ref.Special b) = b ∷ []

-- the variables whose values a shell makes up as they are read are refused   ("Bash Variables")
abbrev pub may_read : Text → Doing (Unit {0})
may_read name = if is_refused name then refuse (fault.Unsupported name) else pure tt

abbrev pub variable : Text → Option ℤ → Option Text → Found
variable name at t = One t (Some (record { name = name; index = at }))

-- an element; a negative index counts from the end, and there must be a place for it
abbrev pub element_found : Text → ℤ → Result (Option Text) VarErr → Doing Found
element_found name at (Ok t) = pure (variable name (Some at) t)
element_found name at (Err refused) = refuse (variable_fault name refused)

-- a name with a subscript, which is evaluated before the variable is read
abbrev pub subscripted : (List SubPart → Doing ℤ) → Text → List SubPart → Option Bool → Doing Found
subscripted index name sub (Some star) =
    may_read name >> seen (λ at. Many star (Array (elements_of (call.get name at.store))))
subscripted index name sub None =
    index sub >>= (λ i. may_read name >> (λ at. element_found name i (call.element name (Some i) at.store) at))

-- `@`, `*`, `#` and `?`; the others are refused   ("Special Parameters")
abbrev pub special : ℕ → Doing Found
special b =
    if b == 64 then seen (λ at. Many false (Arguments at.args))
    else (if b == 42 then seen (λ at. Many true (Arguments at.args))
    else (if b == 35 then seen (λ at. One (Some (decimal (length at.args))) None)
    else (if b == 63 then seen (λ at. One (Some (decimal at.status)) None)
    else refuse (fault.Unsupported (36 ∷ b ∷ [])))))

-- what a reference finds, where `index` gives the number of a subscript
abbrev pub referred : (List SubPart → Doing ℤ) → Ref → Doing Found
referred index (ref.Name x None) = may_read x >> seen (λ at. variable x None (value_named x at))
referred index (ref.Name x (Some sub)) = subscripted index x sub (star_of sub)
referred index (ref.Digits digits) = seen (λ at. One (positional (digits_value 10 digits) at) None)
referred index (ref.Special b) = special b

-- ---- what is found as one text

-- the value; of a list its elements joined
abbrev pub text_found : Found → State → Text
text_found (One t place) at = unwrap_or t []
text_found (Many star source) at = together star (first_of_ifs at) (texts source)
