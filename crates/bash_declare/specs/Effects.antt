-- What a declaration makes of a variable (Bash Reference Manual, "Bash Builtin Commands", "Shell Functions").
use Rattle.std.specs.Prelude.{ℤ, pos, Bool, true, false, ◌||◌, is_some, Option, None, Some, Result, Ok, if◌then◌else◌}
use Rattle.std.specs.Option.{option_and_then}
use Rattle.eb_bytes.specs.Text.{Text}
use Rattle.eb_syntax.specs.declared.parts.DeclName.{DeclName}
use Rattle.eb_syntax.specs.declared.parts.DeclName.TheVariants as declaration
use Rattle.shell_vars.specs.Calls.{global, local, local_binding, mark, set_global}
use Rattle.shell_vars.specs.Store.{Store, call_depth}
use Rattle.shell_vars.specs.Value.{assigned}
use Rattle.shell_vars.specs.declared.attr.Attr.{Attr}
use Rattle.shell_vars.specs.declared.error.VarErr.{VarErr}
use Rattle.shell_vars.specs.declared.value.Value.{Value}
use Rattle.bash_assign.specs.Values.{after, given_to, value_given}
use Rattle.bash_assign.specs.declared.assignment.Given.{Given}
use Rattle.bash_assign.specs.declared.assignment.Given.TheVariants as given
use Rattle.bash_declare.specs.declared.effects.Place.{Place}
use Rattle.bash_declare.specs.declared.effects.Place.TheVariants as place
use Rattle.bash_declare.specs.declared.options.Options.{Options}

-- ---- where it acts

-- in a call these two bind as `local` does
abbrev pub in_call : Store → Place
in_call s = if is_some (call_depth s) then place.Local else place.Seen

abbrev pub declared_place : (global : Bool) → Store → Place
declared_place true s = place.Global
declared_place false s = in_call s

-- `-g` has no effect for the other three
abbrev pub place_of : DeclName → (global : Bool) → Store → Place
place_of declaration.Declare g s = declared_place g s
place_of declaration.Typeset g s = declared_place g s
place_of declaration.Local g s = place.Local
place_of declaration.Export g s = place.Seen
place_of declaration.Readonly g s = place.Seen

-- ---- values

-- without a value: a local name is bound, and else nothing changes
abbrev pub named_in : Place → Text → Store → Result Store VarErr
named_in place.Seen name s = Ok s
named_in place.Local name s = local name None s
named_in place.Global name s = Ok s

-- the value that an assignment makes of the one that is there: a text given to an array is its element 0
abbrev pub value_made : Option ℤ → (appends : Bool) → Given → Option Value → Result Value VarErr
value_made at false (given.Text t) old = assigned at t old
value_made at true (given.Text t) old = value_given at true (given.Text t) old
value_made at appends (given.Array els) old = value_given at appends (given.Array els) old

abbrev pub local_value : Text → Store → Option Value
local_value name s = option_and_then (λ b. b.value) (local_binding name s)

abbrev pub given_locally : Text → Option ℤ → (appends : Bool) → Given → Store → Result Store VarErr
given_locally name at appends g s = after (value_made at appends g (local_value name s)) (λ v. local name (Some v) s)

-- with a value: as an assignment; or in the innermost call, whose own binding alone counts; or in the global frame
abbrev pub given_in : Place → Text → Option ℤ → (appends : Bool) → Given → Store → Result Store VarErr
given_in place.Seen name at appends g s = given_to name at appends g s
given_in place.Local name at appends g s = after (local name None s) (λ u. given_locally name at appends g u)
given_in place.Global name at appends g s = after (value_made at appends g (global name s)) (λ v. set_global name v s)

-- after `-a` a text without a subscript becomes element 0
abbrev pub subscript_of : (array : Bool) → Given → Option ℤ → Option ℤ
subscript_of true (given.Text t) None = Some (pos 0)
subscript_of true (given.Text t) (Some at) = Some at
subscript_of true (given.Array els) at = at
subscript_of false g at = at

-- ---- attributes

abbrev pub is_readonly_named : DeclName → Bool
is_readonly_named declaration.Declare = false
is_readonly_named declaration.Typeset = false
is_readonly_named declaration.Local = false
is_readonly_named declaration.Export = false
is_readonly_named declaration.Readonly = true

abbrev pub is_export_named : DeclName → Bool
is_export_named declaration.Declare = false
is_export_named declaration.Typeset = false
is_export_named declaration.Local = false
is_export_named declaration.Export = true
is_export_named declaration.Readonly = false

abbrev pub attributes_of : DeclName → Options → Attr
attributes_of d o = record { readonly = o.readonly || is_readonly_named d; exported = o.exported || is_export_named d }

-- the attributes, where there are any, are added to the binding that is seen
abbrev pub marked_with : Attr → Text → Store → Result Store VarErr
marked_with a name s = if a.readonly || a.exported then mark name a s else Ok s
