-- What calls leave, one after another.
use Rattle.std.proofs.Common.{◌≡◌, List, [], ◌∷◌, Result, Ok, Err, ap, ◌∙◌}
use Rattle.shell_vars.specs.declared.error.VarErr.{VarErr}
use Rattle.shell_vars.specs.Store.{Store}
use Rattle.shell_vars.specs.Stores.{Stores}
use Rattle.shell_vars.specs.Calls as to
use Rattle.shell_vars.specs.Histories.{Call, Set, SetElem, Assign, Append, Local, Bind, Mark, Unset, UnsetElem, SetGlobal, UnsetGlobal, PushFrame, PopFrame, OpenSub, DropSub, kept, after, after_all, IsMade, HasBeenMade, HaveBeenMade}

made : (given : Result Store VarErr) (s t : Stores) → IsMade given s t → t ≡ kept given s
made (Ok store) s t h = λ i. record { present = h.0 i; saved = h.1 i }
made (Err e) s t h = h

after_one : (c : Call) (s t : Stores) → HasBeenMade c s t → t ≡ after c s
after_one (Set name v) s t h = made (to.set name v s.present) s t h
after_one (SetElem name at text) s t h = made (to.set_elem name at text s.present) s t h
after_one (Assign name at text) s t h = made (to.assign name at text s.present) s t h
after_one (Append name v) s t h = made (to.append name v s.present) s t h
after_one (Local name v) s t h = made (to.local name v s.present) s t h
after_one (Bind name v) s t h = made (to.bind name v s.present) s t h
after_one (Mark name a) s t h = made (to.mark name a s.present) s t h
after_one (Unset name) s t h = made (to.unset name s.present) s t h
after_one (UnsetElem name at) s t h = made (to.unset_elem name at s.present) s t h
after_one (SetGlobal name v) s t h = made (to.set_global name v s.present) s t h
after_one (UnsetGlobal name) s t h = made (to.unset_global name s.present) s t h
after_one (PushFrame kind) s t h = h
after_one PopFrame s t h = h
after_one OpenSub s t h = h
after_one DropSub s t h = h

pub after_calls : (calls : List Call) (s t : Stores) → HaveBeenMade calls s t → t ≡ after_all calls s
after_calls [] s t h = h
after_calls (c ∷ cs) s t h = after_calls cs h.0 t h.2 ∙ ap (after_all cs) (after_one c s h.0 h.1)
