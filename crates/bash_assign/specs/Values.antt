-- What assignments make of the variables, once they are expanded (Bash Reference Manual, "Shell Parameters", "Arrays").
use Rattle.std.specs.Prelude.{ℤ, Bool, true, false, List, [], ◌++◌, unwrap_or, Option, Some, None, Result, Ok, Err}
use Rattle.eb_bytes.specs.Text.{Text}
use Rattle.shell_vars.specs.Calls.{append, assign, bind, element, get, set, set_elem}
use Rattle.shell_vars.specs.Store.{Store}
use Rattle.shell_vars.specs.Value as change
use Rattle.shell_vars.specs.Value.{appended, element_set, elements_of}
use Rattle.shell_vars.specs.declared.error.VarErr.{VarErr}
use Rattle.shell_vars.specs.declared.error.VarErr.TheVariants as refusal
use Rattle.shell_vars.specs.declared.value.Value.{Value}
use Rattle.shell_vars.specs.declared.value.Value.TheVariants as value
use Rattle.bash_assign.specs.Arrays.{array_of, array_with}
use Rattle.bash_assign.specs.declared.assignment.Assignment.{Assignment}
use Rattle.bash_assign.specs.declared.assignment.Given.{Given}
use Rattle.bash_assign.specs.declared.assignment.Given.TheVariants as given
use Rattle.bash_assign.specs.declared.literal.Element.{Element}

-- goes on with what was made, unless that was refused
abbrev pub after : {A B : Type 0} → Result A VarErr → (A → Result B VarErr) → Result B VarErr
after (Ok a) f = f a
after (Err refused) f = Err refused

-- the array that a literal makes; after `+=` its elements come after those of what is there
abbrev pub array_given : (appends : Bool) → List Element → Option Value → Result Value VarErr
array_given false els old = after (array_of els) (λ es. Ok (value.Array es))
array_given true els old = after (array_with els (elements_of old)) (λ es. Ok (value.Array es))

-- ---- assignments

-- an element with a text after what it has
abbrev pub element_extended : Text → ℤ → Text → Store → Result Store VarErr
element_extended name at t s = after (element name (Some at) s) (λ old. set_elem name at (unwrap_or old [] ++ t) s)

-- what an assignment makes of the variables. An array is given to a name, and to no element.
abbrev pub given_to : Text → Option ℤ → (appends : Bool) → Given → Store → Result Store VarErr
given_to name at false (given.Text t) s = assign name at t s
given_to name None true (given.Text t) s = append name (value.Text t) s
given_to name (Some at) true (given.Text t) s = element_extended name at t s
given_to name None appends (given.Array els) s = after (array_given appends els (get name s)) (λ v. set name v s)
given_to name (Some at) appends (given.Array els) s = Err refusal.BadSubscript

abbrev pub made : Assignment → Store → Result Store VarErr
made a s = given_to a.name a.at a.appends a.given s

-- ---- assignments before a command

-- the value that an assignment would give to a name with this value; a plain text is given also where there is an array
abbrev pub value_given : Option ℤ → (appends : Bool) → Given → Option Value → Result Value VarErr
value_given None false (given.Text t) old = Ok (value.Text t)
value_given (Some at) false (given.Text t) old = element_set at t old
value_given None true (given.Text t) old = appended (value.Text t) old
value_given (Some at) true (given.Text t) old =
    after (change.element (Some at) old) (λ had. element_set at (unwrap_or had [] ++ t) old)
value_given None appends (given.Array els) old = array_given appends els old
value_given (Some at) appends (given.Array els) old = Err refusal.BadSubscript

-- the name bound in the innermost frame, to the value that an assignment would give to what is seen
abbrev pub bound_to : Text → Option ℤ → (appends : Bool) → Given → Store → Result Store VarErr
bound_to name at appends given s = after (value_given at appends given (get name s)) (λ v. bind name v s)

-- an assignment before a command
abbrev pub bound : Assignment → Store → Result Store VarErr
bound a s = bound_to a.name a.at a.appends a.given s
