-- What each call makes of a store, or the refusal that comes first.
use Rattle.std.specs.Prelude.{ℕ, ℤ, Bool, true, false, ◌&&◌, ◌||◌, ◌==◌, [], ◌∷◌, is_some, Option, Some, None, Result, Ok, Err, if◌then◌else◌}
use Rattle.std.specs.Option.{option_and_then, option_map_or}
use Rattle.std.specs.FinMap as map
use Rattle.eb_bytes.specs.Text.{Text}
use Rattle.shell_vars.specs.declared.attr.Attr.{Attr}
use Rattle.shell_vars.specs.declared.binding.Binding.{Binding}
use Rattle.shell_vars.specs.declared.value.Value.{Value}
use Rattle.shell_vars.specs.declared.kind.FrameKind.{FrameKind}
use Rattle.shell_vars.specs.declared.kind.FrameKind.TheVariants as opened
use Rattle.shell_vars.specs.declared.error.VarErr.{VarErr}
use Rattle.shell_vars.specs.declared.error.VarErr.TheVariants.{Readonly, LocalOutside}
use Rattle.shell_vars.specs.Value as value
use Rattle.shell_vars.specs.Value.{checked, element_set, assigned, appended, element_unset}
use Rattle.shell_vars.specs.Store.{Kind, Global, Call, Prefix, Store, no_attributes, unset_here, holder, call_depth, global_depth, target, binding_at, held_at, seen, bind_at, unbind_at, admitted}

-- one global frame without names
abbrev pub fresh : Store
fresh = record { kind = Global; names = map.empty } ∷ []

-- the value in the innermost frame that has the name; none where that is the mark or there is no such frame
abbrev pub get : Text → Store → Option Value
get name s = option_and_then (λ b. b.value) (seen name s)

-- the attributes in the innermost frame that has the name
abbrev pub attr : Text → Store → Attr
attr name s = option_map_or (λ b. b.attr) (seen name s) no_attributes

-- the value in the global frame
abbrev pub global : Text → Store → Option Value
global name s = option_and_then (λ b. b.value) (binding_at (global_depth s) name s)

-- the element of that value which a subscript means; without a subscript it is element 0
abbrev pub element : Text → Option ℤ → Store → Result (Option Text) VarErr
element name at s = value.element at (get name s)

-- the binding in the innermost Call frame
abbrev pub local_binding : Text → Store → Option Binding
local_binding name s = option_and_then (λ i. binding_at i name s) (call_depth s)

-- with this binding of the name in the frame that has so many inside it, where there is one and the store has room
abbrev pub bound : ℕ → Text → Result Binding VarErr → Store → Result Store VarErr
bound i name (Ok b) s = admitted (bind_at i name b s)
bound i name (Err e) s = Err e

-- a binding with this value; it keeps its attributes
abbrev pub rebound : Result Value VarErr → Binding → Result Binding VarErr
rebound (Ok v) b = Ok (record b { value = Some v })
rebound (Err e) b = Err e

-- a binding with the value that an edit makes of the old one, unless it is readonly
abbrev pub rewritten : (Option Value → Result Value VarErr) → Binding → Result Binding VarErr
rewritten edit b = if b.attr.readonly then Err Readonly else rebound (edit b.value) b

-- with the name's binding rewritten in the frame that has so many inside it; one that is not there is the mark
abbrev pub written : ℕ → Text → (Option Value → Result Value VarErr) → Store → Result Store VarErr
written i name edit s = bound i name (rewritten edit (held_at i name s)) s

-- `set` writes into the innermost frame that has the name, else into the global one
abbrev pub set : Text → Value → Store → Result Store VarErr
set name v s = written (target name s) name (λ old. checked v) s

-- `set_elem` writes an element there
abbrev pub set_elem : Text → ℤ → Text → Store → Result Store VarErr
set_elem name at t s = written (target name s) name (element_set at t) s

-- `assign` gives a text to the name there, or to an element of it
abbrev pub assign : Text → Option ℤ → Text → Store → Result Store VarErr
assign name at t s = written (target name s) name (assigned at t) s

-- `append` appends there
abbrev pub append : Text → Value → Store → Result Store VarErr
append name v s = written (target name s) name (appended v) s

-- `bind` writes into the innermost frame
abbrev pub bind : Text → Value → Store → Result Store VarErr
bind name v s = written 0 name (λ old. checked v) s

-- `set_global` writes into the global frame
abbrev pub set_global : Text → Value → Store → Result Store VarErr
set_global name v s = written (global_depth s) name (λ old. checked v) s

-- whether the frame with so many inside it is the global one, and the name is readonly there
abbrev pub is_readonly_global_at : Option ℕ → Text → Store → Bool
is_readonly_global_at None name s = false
is_readonly_global_at (Some i) name s = i == global_depth s && (held_at i name s).attr.readonly

-- whether the name is seen in the global frame, and is readonly there
abbrev pub is_readonly_global : Text → Store → Bool
is_readonly_global name s = is_readonly_global_at (holder name s) name s

-- what `local` does in the frame that has so many inside it: without a value the name gets the mark there, unless it is
-- bound there already
abbrev pub local_at : ℕ → Text → Option Value → Store → Result Store VarErr
local_at i name (Some v) s = written i name (λ old. checked v) s
local_at i name None s = if is_some (binding_at i name s) then Ok s else admitted (bind_at i name unset_here s)

-- without a Call frame there is nothing to bind in; and a name that is seen in the global frame and readonly there
-- stays
abbrev pub local_in : Option ℕ → Text → Option Value → Store → Result Store VarErr
local_in None name v s = Err LocalOutside
local_in (Some i) name v s = if is_readonly_global name s then Err Readonly else local_at i name v s

-- `local` binds in the innermost Call frame
abbrev pub local : Text → Option Value → Store → Result Store VarErr
local name v s = local_in (call_depth s) name v s

-- each attribute that one of them has
abbrev pub both : Attr → Attr → Attr
both a b = record { readonly = a.readonly || b.readonly; exported = a.exported || b.exported }

-- a binding with these attributes too
abbrev pub marked : Attr → Binding → Binding
marked a b = record b { attr = both b.attr a }

-- `mark` adds attributes to the binding that `set` would write, and takes none away; where there is none it is the mark
abbrev pub mark : Text → Attr → Store → Result Store VarErr
mark name a s = admitted (bind_at (target name s) name (marked a (held_at (target name s) name s)) s)

-- whether two depths are given and equal
abbrev pub is_at : ℕ → Option ℕ → Bool
is_at i None = false
is_at i (Some j) = i == j

-- what `unset` leaves: in the innermost Call frame the mark without attributes, and in another frame no binding
abbrev pub unset_at : ℕ → Text → Store → Store
unset_at i name s = if is_at i (call_depth s) then bind_at i name unset_here s else unbind_at i name s

-- without a frame that has the name nothing changes
abbrev pub unset_in : Option ℕ → Text → Store → Result Store VarErr
unset_in None name s = Ok s
unset_in (Some i) name s = if (held_at i name s).attr.readonly then Err Readonly else Ok (unset_at i name s)

-- `unset` acts on the innermost frame that has the name
abbrev pub unset : Text → Store → Result Store VarErr
unset name s = unset_in (holder name s) name s

-- a binding with this value, or none
abbrev pub revalued : Result (Option Value) VarErr → Binding → Result Binding VarErr
revalued (Ok v) b = Ok (record b { value = v })
revalued (Err e) b = Err e

-- a binding without the element that a subscript means, unless it is readonly
abbrev pub lessened : ℤ → Binding → Result Binding VarErr
lessened at b = if b.attr.readonly then Err Readonly else revalued (element_unset at b.value) b

-- with this binding of the name there
abbrev pub replaced : ℕ → Text → Result Binding VarErr → Store → Result Store VarErr
replaced i name (Ok b) s = Ok (bind_at i name b s)
replaced i name (Err e) s = Err e

-- where the name has no binding there is no element to take away, but a negative subscript has no meaning
abbrev pub unchanged : Result Binding VarErr → Store → Result Store VarErr
unchanged (Ok b) s = Ok s
unchanged (Err e) s = Err e

-- without a frame that has the name nothing changes
abbrev pub unset_elem_in : Option ℕ → Text → ℤ → Store → Result Store VarErr
unset_elem_in None name at s = unchanged (lessened at unset_here) s
unset_elem_in (Some i) name at s = replaced i name (lessened at (held_at i name s)) s

-- `unset_elem` takes an element away from the value in the innermost frame that has the name
abbrev pub unset_elem : Text → ℤ → Store → Result Store VarErr
unset_elem name at s = unset_elem_in (holder name s) name at s

-- `unset_global` removes the binding in the global frame
abbrev pub unset_global : Text → Store → Result Store VarErr
unset_global name s =
    if (held_at (global_depth s) name s).attr.readonly then Err Readonly else Ok (unbind_at (global_depth s) name s)

abbrev pub kind_opened : FrameKind → Kind
kind_opened opened.Call = Call
kind_opened opened.Prefix = Prefix

-- the frame that nothing opened is the global one
abbrev pub kind_seen : Option FrameKind → Kind
kind_seen None = Global
kind_seen (Some kind) = kind_opened kind

-- with a frame inside all others
abbrev pub push_frame : FrameKind → Store → Store
push_frame kind s = record { kind = kind_opened kind; names = map.empty } ∷ s

-- without the innermost frame
abbrev pub pop_frame : Store → Store
pop_frame [] = []
pop_frame (f ∷ fs) = fs

abbrev pub is_prefix : Kind → Bool
is_prefix Global = false
is_prefix Call = false
is_prefix Prefix = true

-- whether the innermost frame is of kind Prefix
abbrev pub is_prefix_open : Store → Bool
is_prefix_open [] = false
is_prefix_open (f ∷ fs) = is_prefix f.kind
