-- Parameters that may be set, as `-v` asks for them, and faults of its operand.
use Rattle.std.specs.Prelude.{◌≡◌, Bool, not, ◌||◌, ◌==◌, codes, Option, Some, None}
use Rattle.std.specs.FinMap as map
use Rattle.std.specs.Str.{bytes_eq}
use Rattle.eb_bytes.specs.Text.{Text}
use Rattle.eb_syntax.specs.Tree.{Sub}
use Rattle.shell_vars.specs.Value.{elements_of}
use Rattle.shell_vars.specs.declared.value.Value.{Value}
use Rattle.shell_state.specs.Outcome.{Doing}
use Rattle.shell_state.specs.declared.fault.Fault.{Fault}
use Rattle.shell_state.specs.declared.stop.Stop.{Stop}
use Rattle.shell_state.specs.declared.stop.Stop.TheVariants as stop
use Rattle.run_meaning.specs.Conditions.{bracketed, has_at, has_element}

-- it is this fault, or out of memory
abbrev pub IsFault : Stop → Fault → Type 0
IsFault (stop.Fault why) f = why ≡ f
IsFault stop.Failed f = ⊥
IsFault stop.Memory f = Unit {0}

-- whether a value has any element
abbrev pub has_any : Option Value → Bool
has_any v = not (map.len (elements_of v) == 0)

-- what stands in the operand's brackets, where a subscript was read in it
abbrev pub subscript_of : (operand : Text) → Option Sub → Option Text
subscript_of operand None = None
subscript_of operand (Some read) = Some (bracketed operand)

-- a variable, or its element of a subscript
abbrev pub has_variable : Text → Option Text → Doing Bool
has_variable name None = has_element name None
has_variable name (Some subscript) = has_at name subscript

-- `@` and `*` mean all elements
abbrev pub means_all : Text → Bool
means_all subscript = bytes_eq subscript (codes "@") || bytes_eq subscript (codes "*")
