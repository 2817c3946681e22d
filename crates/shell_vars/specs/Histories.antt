-- Lists of calls that may change the variables.
use Rattle.std.specs.Prelude.{◌≡◌, ℤ, List, [], ◌∷◌, Option, Result, Ok, Err}
use Rattle.eb_bytes.specs.Text.{Text}
use Rattle.shell_vars.specs.declared.attr.Attr.{Attr}
use Rattle.shell_vars.specs.declared.kind.FrameKind.{FrameKind}
use Rattle.shell_vars.specs.declared.error.VarErr.{VarErr}
use Rattle.shell_vars.specs.declared.value.Value.{Value}
use Rattle.shell_vars.specs.Store.{Store}
use Rattle.shell_vars.specs.Stores.{Stores, open_sub, drop_sub}
use Rattle.shell_vars.specs.Calls as to

-- a call, with what it is given
pub data Call : Type 0 where
  Set : Text → Value → Call
  SetElem : Text → ℤ → Text → Call
  Assign : Text → Option ℤ → Text → Call
  Append : Text → Value → Call
  Local : Text → Option Value → Call
  Bind : Text → Value → Call
  Mark : Text → Attr → Call
  Unset : Text → Call
  UnsetElem : Text → ℤ → Call
  SetGlobal : Text → Value → Call
  UnsetGlobal : Text → Call
  PushFrame : FrameKind → Call
  PopFrame : Call
  OpenSub : Call
  DropSub : Call

-- with this store as the present one; a refusal changes nothing
abbrev pub kept : Result Store VarErr → Stores → Stores
kept (Ok store) s = record s { present = store }
kept (Err e) s = s

-- the stores after a call that is not out of memory
abbrev pub after : Call → Stores → Stores
after (Set name v) s = kept (to.set name v s.present) s
after (SetElem name at t) s = kept (to.set_elem name at t s.present) s
after (Assign name at t) s = kept (to.assign name at t s.present) s
after (Append name v) s = kept (to.append name v s.present) s
after (Local name v) s = kept (to.local name v s.present) s
after (Bind name v) s = kept (to.bind name v s.present) s
after (Mark name a) s = kept (to.mark name a s.present) s
after (Unset name) s = kept (to.unset name s.present) s
after (UnsetElem name at) s = kept (to.unset_elem name at s.present) s
after (SetGlobal name v) s = kept (to.set_global name v s.present) s
after (UnsetGlobal name) s = kept (to.unset_global name s.present) s
after (PushFrame kind) s = record s { present = to.push_frame kind s.present }
after PopFrame s = record s { present = to.pop_frame s.present }
after OpenSub s = open_sub s
after DropSub s = drop_sub s

-- the stores after a list of calls
abbrev pub after_all : List Call → Stores → Stores
after_all [] s = s
after_all (c ∷ cs) s = after_all cs (after c s)

-- what a call's contract says, by what its function gives: it is made, or refused and changes nothing
abbrev pub IsMade : Result Store VarErr → Stores → Stores → Type 0
IsMade (Ok store) old new = (new.present ≡ store) × (new.saved ≡ old.saved)
IsMade (Err e) old new = new ≡ old

-- that a call was made between these stores, and was not out of memory
abbrev pub HasBeenMade : Call → Stores → Stores → Type 0
HasBeenMade (Set name v) s t = IsMade (to.set name v s.present) s t
HasBeenMade (SetElem name at text) s t = IsMade (to.set_elem name at text s.present) s t
HasBeenMade (Assign name at text) s t = IsMade (to.assign name at text s.present) s t
HasBeenMade (Append name v) s t = IsMade (to.append name v s.present) s t
HasBeenMade (Local name v) s t = IsMade (to.local name v s.present) s t
HasBeenMade (Bind name v) s t = IsMade (to.bind name v s.present) s t
HasBeenMade (Mark name a) s t = IsMade (to.mark name a s.present) s t
HasBeenMade (Unset name) s t = IsMade (to.unset name s.present) s t
HasBeenMade (UnsetElem name at) s t = IsMade (to.unset_elem name at s.present) s t
HasBeenMade (SetGlobal name v) s t = IsMade (to.set_global name v s.present) s t
HasBeenMade (UnsetGlobal name) s t = IsMade (to.unset_global name s.present) s t
HasBeenMade (PushFrame kind) s t = t ≡ record s { present = to.push_frame kind s.present }
HasBeenMade PopFrame s t = t ≡ record s { present = to.pop_frame s.present }
HasBeenMade OpenSub s t = t ≡ open_sub s
HasBeenMade DropSub s t = t ≡ drop_sub s

-- that calls were made one after another
abbrev pub HaveBeenMade : List Call → Stores → Stores → Type 0
HaveBeenMade [] s t = t ≡ s
HaveBeenMade (c ∷ cs) s t = (u : Stores) × HasBeenMade c s u × HaveBeenMade cs u t
