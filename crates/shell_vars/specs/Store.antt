-- Stores: lists of frames, the innermost first, the global one last (Bash Reference Manual, "Shell Functions").
use Rattle.std.specs.Prelude.{◌≡◌, ℕ, zero, suc, ◌+◌, ◌-◌, ◌<◌, ◌≤◌, Bool, true, false, List, [], ◌∷◌, length, nat_le, sum_by, unwrap_or, Option, Some, None, Result, Ok, Err, if◌then◌else◌, refl, map as map_list}
use Rattle.std.specs.Option.{option_map, option_and_then}
use Rattle.std.specs.Ordering.{nat_cmp}
use Rattle.std.specs.Cmp.Lexicographic.{slice_cmp}
use Rattle.std.specs.FinMap as map
use Rattle.std.specs.Coded.{Coded, code_by, coded×, coded_list, coded_ℕ}
use Rattle.eb_bytes.specs.Text.{Text}
use Rattle.shell_vars.specs.declared.attr.Attr.{Attr}
use Rattle.shell_vars.specs.declared.binding.Binding.{Binding}
use Rattle.shell_vars.specs.contracts.binding.Binding as binding
use Rattle.shell_vars.specs.declared.error.VarErr.{VarErr}
use Rattle.shell_vars.specs.declared.error.VarErr.TheVariants.{TotalSize}
use Rattle.shell_vars.specs.Value.{value_size}

-- what opened a frame: nothing, a call, or the assignments before a command
pub data Kind : Type 0 where
  Global : Kind
  Call : Kind
  Prefix : Kind

-- from name to binding: a value or the mark "unset here", with attributes
abbrev pub Names : Type 0
Names = map.FinMap (slice_cmp nat_cmp) Binding

pub record Frame : Type 0 where
  pub kind : Kind
  pub names : Names

abbrev pub Store : Type 0
Store = List Frame

abbrev pub no_attributes : Attr
no_attributes = record { readonly = false; exported = false }

-- what opened each of the frames
abbrev pub kinds : Store → List Kind
kinds s = map_list (λ f. f.kind) s

-- the mark "unset here", without attributes
abbrev pub unset_here : Binding
unset_here = record { value = None; attr = no_attributes }

-- how many frames are inside the innermost one that has the name; none where no frame has it
abbrev pub holder : Text → Store → Option ℕ
holder name [] = None
holder name (f ∷ fs) = if map.contains_key f.names name then Some 0 else option_map suc (holder name fs)

abbrev pub is_call : Kind → Bool
is_call Global = false
is_call Call = true
is_call Prefix = false

-- how many frames are inside the innermost Call frame
abbrev pub call_depth : Store → Option ℕ
call_depth [] = None
call_depth (f ∷ fs) = if is_call f.kind then Some 0 else option_map suc (call_depth fs)

-- how many frames are inside the global one
abbrev pub global_depth : Store → ℕ
global_depth s = length s - 1

-- the frame that an assignment writes into: the innermost one that has the name, else the global one
abbrev pub target : Text → Store → ℕ
target name s = unwrap_or (holder name s) (global_depth s)

-- the binding of the name in the frame with so many inside it
abbrev pub binding_at : ℕ → Text → Store → Option Binding
binding_at i name [] = None
binding_at zero name (f ∷ fs) = map.get f.names name
binding_at (suc i) name (f ∷ fs) = binding_at i name fs

-- the same, and the mark without attributes where the name is not bound there
abbrev pub held_at : ℕ → Text → Store → Binding
held_at i name s = unwrap_or (binding_at i name s) unset_here

-- the binding that is seen: the one in the innermost frame that has the name
abbrev pub seen : Text → Store → Option Binding
seen name s = option_and_then (λ i. binding_at i name s) (holder name s)

-- with other names in the frame that has so many inside it
abbrev pub with_names : (Names → Names) → ℕ → Store → Store
with_names change i [] = []
with_names change zero (f ∷ fs) = record f { names = change f.names } ∷ fs
with_names change (suc i) (f ∷ fs) = f ∷ with_names change i fs

-- with this binding of the name there
abbrev pub bind_at : ℕ → Text → Binding → Store → Store
bind_at i name b s = with_names (λ names. map.insert names name b) i s

-- without a binding of the name there
abbrev pub unbind_at : ℕ → Text → Store → Store
unbind_at i name s = with_names (λ names. map.remove names name) i s

-- the size of a bound name: its length, and for each element of its value the length and 16
abbrev pub binding_size : Text × Binding → ℕ
binding_size e = length e.0 + value_size e.1.value

abbrev pub names_size : Names → ℕ
names_size names = sum_by binding_size (map.entries names)

abbrev pub size : Store → ℕ
size s = sum_by (λ f. names_size f.names) s

-- a store, where it has at most 33,554,432 bytes
abbrev pub admitted : Store → Result Store VarErr
admitted s = if nat_le (size s) 33554432 then Ok s else Err TotalSize

abbrev pub number_of : Kind → ℕ
number_of Global = 0
number_of Call = 1
number_of Prefix = 2

abbrev pub kind_of : ℕ → Kind
kind_of zero = Global
kind_of (suc zero) = Call
kind_of (suc (suc n)) = Prefix

pub kind_of-number_of : (k : Kind) → kind_of (number_of k) ≡ k
kind_of-number_of Global = refl
kind_of-number_of Call = refl
kind_of-number_of Prefix = refl

abbrev pub kind_code : Coded Kind
kind_code = code_by ℕ coded_ℕ number_of kind_of kind_of-number_of

abbrev pub names_code : Coded Names
names_code = map.code (coded_list coded_ℕ) binding.the_row.coded

abbrev pub frame_code : Coded Frame
frame_code =
    code_by (Kind × Names) (coded× kind_code names_code) (λ f. (f.kind, f.names)) (λ p. record { kind = p.0; names = p.1 }) (λ _. refl)

abbrev pub store_code : Coded Store
store_code = coded_list frame_code

-- a store's bytes are counted, and there are at most as many as may be; the global frame is there
pub record Counts (s : Store) (used : ℕ) : Type 0 where
  pub counted : used ≡ size s
  pub within : used ≤ 33554432
  pub some : 0 < length s
