-- A change of the variables leaves the frames that are open: in each of them only names change.
use Rattle.std.proofs.Common.{◌≡◌, ℕ, ℤ, Bool, true, false, Option, Some, None, refl}
use Rattle.std.specs.Prelude.{is_some, nat_le, Result, Ok, Err, if◌then◌else◌}
use Rattle.std.specs.FinMap as map
use Rattle.eb_bytes.specs.Text.{Text}
use Rattle.shell_vars.proofs.Frames.{kinds-with_names}
use Rattle.shell_vars.specs.Calls.{append, assign, bind, bound, is_at, is_readonly_global, lessened, local, local_at, local_in, replaced, rewritten, set, set_elem, unchanged, unset, unset_at, unset_elem, unset_elem_in, unset_in, written}
use Rattle.shell_vars.specs.Store.{Store, admitted, bind_at, binding_at, call_depth, held_at, holder, kinds, size, target, unbind_at, unset_here}
use Rattle.shell_vars.specs.Value.{appended, assigned, checked, element_set}
use Rattle.shell_vars.specs.declared.binding.Binding.{Binding}
use Rattle.shell_vars.specs.declared.error.VarErr.{VarErr}
use Rattle.shell_vars.specs.declared.error.VarErr.TheVariants.{Readonly, TotalSize}
use Rattle.shell_vars.specs.declared.value.Value.{Value}

-- of a change that is not refused
abbrev pub SameFrames : Store → Result Store VarErr → Type 0
SameFrames s (Ok u) = kinds u ≡ kinds s
SameFrames s (Err refused) = Unit {0}

abbrev pub KeepsFrames : (Store → Result Store VarErr) → Type 0
KeepsFrames make = (s : Store) → SameFrames s (make s)

either_same : (b : Bool) (s : Store) (r q : Result Store VarErr) → SameFrames s r → SameFrames s q → SameFrames s (if b then r else q)
either_same true s r q h k = h
either_same false s r q h k = k

-- ---- names in one frame

bind_at_same : (i : ℕ) (x : Text) (b : Binding) (s : Store) → kinds (bind_at i x b s) ≡ kinds s
bind_at_same i x b s = kinds-with_names (λ names. map.insert names x b) i s

unbind_at_same : (i : ℕ) (x : Text) (s : Store) → kinds (unbind_at i x s) ≡ kinds s
unbind_at_same i x s = kinds-with_names (λ names. map.remove names x) i s

admitted_same : (s u : Store) → kinds u ≡ kinds s → SameFrames s (admitted u)
admitted_same s u e = either_same (nat_le (size u) 33554432) s (Ok u) (Err TotalSize) e tt

bound_same : (i : ℕ) (x : Text) (r : Result Binding VarErr) → KeepsFrames (bound i x r)
bound_same i x (Ok b) s = admitted_same s (bind_at i x b s) (bind_at_same i x b s)
bound_same i x (Err refused) s = tt

written_same : (i : ℕ) (x : Text) (edit : Option Value → Result Value VarErr) → KeepsFrames (written i x edit)
written_same i x edit s = bound_same i x (rewritten edit (held_at i x s)) s

-- ---- calls

pub set_same : (x : Text) (v : Value) → KeepsFrames (set x v)
set_same x v s = written_same (target x s) x (λ old. checked v) s

pub set_elem_same : (x : Text) (at : ℤ) (t : Text) → KeepsFrames (set_elem x at t)
set_elem_same x at t s = written_same (target x s) x (element_set at t) s

pub assign_same : (x : Text) (at : Option ℤ) (t : Text) → KeepsFrames (assign x at t)
assign_same x at t s = written_same (target x s) x (assigned at t) s

pub append_same : (x : Text) (v : Value) → KeepsFrames (append x v)
append_same x v s = written_same (target x s) x (appended v) s

pub bind_same : (x : Text) (v : Value) → KeepsFrames (bind x v)
bind_same x v s = written_same 0 x (λ old. checked v) s

local_at_same : (i : ℕ) (x : Text) (v : Option Value) → KeepsFrames (local_at i x v)
local_at_same i x (Some v) s = written_same i x (λ old. checked v) s
local_at_same i x None s =
    either_same (is_some (binding_at i x s)) s (Ok s) _ refl (admitted_same s (bind_at i x unset_here s) (bind_at_same i x unset_here s))

local_in_same : (at : Option ℕ) (x : Text) (v : Option Value) → KeepsFrames (local_in at x v)
local_in_same None x v s = tt
local_in_same (Some i) x v s = either_same (is_readonly_global x s) s (Err Readonly) (local_at i x v s) tt (local_at_same i x v s)

pub local_same : (x : Text) (v : Option Value) → KeepsFrames (local x v)
local_same x v s = local_in_same (call_depth s) x v s

if_same : (b : Bool) (s u w : Store) → kinds u ≡ kinds s → kinds w ≡ kinds s → kinds (if b then u else w) ≡ kinds s
if_same true s u w e f = e
if_same false s u w e f = f

unset_in_same : (at : Option ℕ) (x : Text) → KeepsFrames (unset_in at x)
unset_in_same None x s = refl
unset_in_same (Some i) x s =
    either_same (held_at i x s).attr.readonly s (Err Readonly) (Ok (unset_at i x s)) tt
    (if_same (is_at i (call_depth s)) s (bind_at i x unset_here s) (unbind_at i x s) (bind_at_same i x unset_here s) (unbind_at_same i x s))

pub unset_same : (x : Text) → KeepsFrames (unset x)
unset_same x s = unset_in_same (holder x s) x s

unchanged_same : (r : Result Binding VarErr) → KeepsFrames (unchanged r)
unchanged_same (Ok b) s = refl
unchanged_same (Err refused) s = tt

replaced_same : (i : ℕ) (x : Text) (r : Result Binding VarErr) → KeepsFrames (replaced i x r)
replaced_same i x (Ok b) s = bind_at_same i x b s
replaced_same i x (Err refused) s = tt

unset_elem_in_same : (i : Option ℕ) (x : Text) (at : ℤ) → KeepsFrames (unset_elem_in i x at)
unset_elem_in_same None x at s = unchanged_same (lessened at unset_here) s
unset_elem_in_same (Some i) x at s = replaced_same i x (lessened at (held_at i x s)) s

pub unset_elem_same : (x : Text) (at : ℤ) → KeepsFrames (unset_elem x at)
unset_elem_same x at s = unset_elem_in_same (holder x s) x at s
