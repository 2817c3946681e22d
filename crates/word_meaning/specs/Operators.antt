-- The operators of `${..}` (Bash Reference Manual, "Shell Parameter Expansion"), once their words are expanded.
use Rattle.std.specs.Prelude.{ℕ, ℤ, Bool, true, false, ◌&&◌, ◌||◌, not, is_none, List, [], ◌∷◌, decimal, length, map, unwrap_or, Option, Some, None, Result, Ok, Err, if◌then◌else◌}
use Rattle.std.specs.FinMap as finite
use Rattle.std.specs.List.{join_with_byte}
use Rattle.bash_assign.specs.Assignments.{assigns as gives}
use Rattle.bash_params.specs.Case.{case_changed}
use Rattle.bash_params.specs.Cost.{match_cost, replace_cost}
use Rattle.bash_params.specs.Cut.{list_sliced, sliced, substring}
use Rattle.bash_params.specs.Replacement.{replaced}
use Rattle.bash_params.specs.Stripping.{stripped}
use Rattle.bash_params.specs.declared.error.ParamErr.{ParamErr}
use Rattle.bash_params.specs.declared.error.ParamErr.TheVariants as refusal
use Rattle.bash_params.specs.declared.operator.CaseOp.{CaseOp}
use Rattle.bash_params.specs.declared.operator.CaseOp.TheVariants as case
use Rattle.bash_params.specs.declared.operator.Replace.{Replace}
use Rattle.bash_params.specs.declared.operator.Replace.TheVariants as replace
use Rattle.bash_params.specs.declared.operator.Strip.{Strip}
use Rattle.bash_params.specs.declared.operator.Strip.TheVariants as strip
use Rattle.bash_patterns.specs.Form.{Form}
use Rattle.bash_patterns.specs.Matching.{matches}
use Rattle.bash_patterns.specs.Reading.{pattern_of}
use Rattle.eb_bytes.specs.Text.{Text, has_bytes}
use Rattle.eb_syntax.specs.declared.parts.CaseOp.{CaseOp as CaseSign}
use Rattle.eb_syntax.specs.declared.parts.CaseOp.TheVariants as case_sign
use Rattle.eb_syntax.specs.declared.parts.ReplaceOp.{ReplaceOp}
use Rattle.eb_syntax.specs.declared.parts.ReplaceOp.TheVariants as replace_sign
use Rattle.eb_syntax.specs.declared.parts.StripOp.{StripOp}
use Rattle.eb_syntax.specs.declared.parts.StripOp.TheVariants as strip_sign
use Rattle.eb_syntax.specs.declared.parts.ValueOp.{ValueOp}
use Rattle.eb_syntax.specs.declared.parts.ValueOp.TheVariants as by
use Rattle.shell_marks.specs.declared.marked.Mark.TheVariants.{Literal}
use Rattle.shell_state.specs.Outcome.{Doing, ◌>>=◌, ◌>>◌, ◌<$>◌, pure, refuse}
use Rattle.shell_state.specs.Spending.{spend}
use Rattle.shell_state.specs.declared.fault.Fault.TheVariants as fault
use Rattle.word_meaning.specs.Limits.{fits}
use Rattle.word_meaning.specs.Marks.{Given, Marks, given, emitted, has_elements, listed, unquoted}
use Rattle.word_meaning.specs.References.{Array, Arguments, Found, Many, One, Place, Source, first_of_ifs, seen, shell_name, texts}
use Rattle.word_meaning.specs.declared.mode.Mode.{Mode}

-- ---- without an operator

-- what is found, as its text or its elements
abbrev pub shown : Mode → (quoted : Bool) → Found → Doing Given
shown m quoted (One t place) = pure (given (emitted quoted (unwrap_or t [])))
shown m quoted (Many star source) = seen (λ at. listed m quoted star (first_of_ifs at) (texts source))

-- `${#..}`: the bytes of a text, the elements of a list
abbrev pub length_of : Found → ℕ
length_of (One t place) = length (unwrap_or t [])
length_of (Many star source) = length (texts source)

-- `${!..[@]}`: the indices of the elements, as elements
abbrev pub indices : Source → List Text
indices (Array es) = map decimal (finite.keys es)
indices (Arguments ts) = []

abbrev pub with_indices : Found → Found
with_indices (One t place) = One t place
with_indices (Many star source) = Many star (Arguments (indices source))

-- ---- `-`, `=`, `?` and `+`

-- a list is unset where it has no element
abbrev pub is_unset : Found → Bool
is_unset (One t place) = is_none t
is_unset (Many star source) = not (has_elements (texts source))

-- a list is empty where its elements joined by blanks are the empty text
abbrev pub is_empty : Found → Bool
is_empty (One t place) = not (has_bytes (unwrap_or t []))
is_empty (Many star source) = not (has_bytes (join_with_byte 32 (texts source)))

-- what an operator does: `-`, `=`, `?`, `+`
pub data Deed : Type 0 where
  Default : Deed
  Assign : Deed
  Fail : Deed
  Other : Deed

abbrev pub deed : ValueOp → Deed
deed by.DefaultOfEmpty = Default
deed by.AssignOfEmpty = Assign
deed by.ErrorOfEmpty = Fail
deed by.OtherOfFilled = Other
deed by.Default = Default
deed by.Assign = Assign
deed by.Error = Fail
deed by.Other = Other

-- with a colon an empty value counts as unset
abbrev pub has_colon : ValueOp → Bool
has_colon by.DefaultOfEmpty = true
has_colon by.AssignOfEmpty = true
has_colon by.ErrorOfEmpty = true
has_colon by.OtherOfFilled = true
has_colon by.Default = false
has_colon by.Assign = false
has_colon by.Error = false
has_colon by.Other = false

-- whether there is no value for the operator
abbrev pub lacks : ValueOp → Found → Bool
lacks op found = is_unset found || (has_colon op && is_empty found)

-- in double quotes an unset list of `@` stays one that has no elements
abbrev pub is_unset_list : Found → Bool
is_unset_list (One t place) = false
is_unset_list (Many star source) = not star && not (has_elements (texts source))

-- `+` without a value
abbrev pub no_other : (quoted : Bool) → Found → Given
no_other quoted found = record { marks = []; has_no_elements = quoted && is_unset_list found }

-- `=` gives a text to the variable or the element
abbrev pub assigns : Place → Text → Doing (Unit {0})
assigns place t = gives place.name place.index t

-- ---- patterns

-- a pattern, where at most 64 groups of it are nested   ("Pattern Matching")
abbrev pub formed : Option Form → Doing Form
formed None = refuse fault.PatternDeep
formed (Some form) = pure form

-- the pattern that marks are, where the option extglob says whether groups are read
abbrev pub compiled : Marks → Doing Form
compiled ms = λ at. formed (pattern_of at.opts.extglob ms) at

-- what an operator makes of each element of a list; of an unset value it makes nothing
abbrev pub each_text : (Text → Doing Text) → List Text → Doing (List Text)
each_text f [] = pure []
each_text f (t ∷ ts) = f t >>= (λ u. (λ us. u ∷ us) <$> each_text f ts)

abbrev pub each_value : (Text → Doing Text) → Found → Doing Found
each_value f (One None place) = pure (One None None)
each_value f (One (Some t) place) = (λ u. One (Some u) None) <$> f t
each_value f (Many star source) = (λ us. Many star (Arguments us)) <$> each_text f (texts source)

abbrev pub strip_of : StripOp → Strip
strip_of strip_sign.LongestPrefix = strip.LongPrefix
strip_of strip_sign.ShortestPrefix = strip.ShortPrefix
strip_of strip_sign.LongestSuffix = strip.LongSuffix
strip_of strip_sign.ShortestSuffix = strip.ShortSuffix

-- `#`, `##`, `%`, `%%`: the cost of the match, then the text without it
abbrev pub strip_text : StripOp → (marks : ℕ) → Form → Text → Doing Text
strip_text op marks form t = spend (match_cost (length t) marks) >> pure (stripped (strip_of op) (matches form) t)

abbrev pub strips : StripOp → Marks → Found → Doing Found
strips op ms found = compiled ms >>= (λ form. each_value (strip_text op (length ms) form) found)

abbrev pub replace_of : ReplaceOp → Replace
replace_of replace_sign.All = replace.All
replace_of replace_sign.Prefix = replace.AtStart
replace_of replace_sign.Suffix = replace.AtEnd
replace_of replace_sign.First = replace.First

-- the empty pattern is none
abbrev pub tester : Marks → Form → Option (Text → Bool)
tester ms form = if has_bytes (unquoted ms) then Some (matches form) else None

abbrev pub fitting : Text → Doing Text
fitting t = fits t >> pure t

-- `/`, `//`, `/#`, `/%`: the cost, then the text with the replacement, where it has at most 1,048,576 bytes
abbrev pub replace_text : ReplaceOp → Marks → Form → (replacement : Text) → Text → Doing Text
replace_text op ms form replacement t =
    spend (replace_cost (length t) (length ms)) >> fitting (replaced (replace_of op) (tester ms form) replacement t)

abbrev pub replaces : ReplaceOp → Marks → Form → (replacement : Text) → Found → Doing Found
replaces op ms form replacement found = each_value (replace_text op ms form replacement) found

abbrev pub case_of : CaseSign → CaseOp
case_of case_sign.UpperAll = case.UpAll
case_of case_sign.UpperFirst = case.UpFirst
case_of case_sign.LowerAll = case.DownAll
case_of case_sign.LowerFirst = case.DownFirst

-- the pattern of `^`, `^^`, `,` and `,,` is `?` where none is written
abbrev pub case_pattern : {X : Type 0} → List X → Marks → Marks
case_pattern [] ms = Literal 63 ∷ []
case_pattern (w ∷ ws) ms = ms

abbrev pub changes_case : CaseSign → Marks → Found → Doing Found
changes_case op ms found = compiled ms >>= (λ form. each_value (λ t. pure (case_changed (case_of op) (matches form) t)) found)

-- ---- substrings and slices

-- what a slice gives, or the fault of the parameter with this name
abbrev pub cut : {A : Type 0} → Text → Result A ParamErr → Doing A
cut name (Ok a) = pure a
cut name (Err refusal.BadSubstitution) = refuse (fault.BadSubstitution name)
cut name (Err refusal.ValueSize) = refuse fault.ValueSize
cut name (Err refusal.Memory) = refuse fault.ValueSize

-- before the arguments stands the name of the shell
abbrev pub source_sliced : ℤ → Option ℤ → Source → Result (List Text) ParamErr
source_sliced offset len (Array es) = sliced offset len es
source_sliced offset len (Arguments ts) = list_sliced offset len (shell_name ∷ ts)

abbrev pub slices : Text → ℤ → Option ℤ → Found → Doing Found
slices name offset len (One None place) = pure (One None None)
slices name offset len (One (Some t) place) = (λ u. One (Some u) None) <$> cut name (substring offset len t)
slices name offset len (Many star source) = (λ us. Many star (Arguments us)) <$> cut name (source_sliced offset len source)
