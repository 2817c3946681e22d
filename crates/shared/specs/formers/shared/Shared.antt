-- Where a `Shared` keeps the value that it owns, so that a type may lead back to itself through one: its count and
-- address are the shape, and the value is the one thing of that type in it.
use mathlib.Core.Path.{refl}
use mathlib.Core.Former.{Former, this, const, pair, via}
use base.Stored.{gnil}
use base.Fml.{ftrue}
use denote.RattleType.{RattleType}
use denote.Memory.{part_of}
use denote.RawPtr.{Ptr}
use denote.Sharing.{nothing}
use denote.HoleLaws.{Alike}
use denote.HolePlaces.{Recodes, struct_places, laid, one_value}
use denote.Hole.Fix.{over}
use denote.Param.Weighed.{Weighed}
use denote.Model.Placed.{view_places}
use Rattle.std.specs.declared.rc.Rc.{Rc}
use Rattle.std.specs.contracts.rc.Rc as rc
use Rattle.std.specs.declared.alloc.Global.{Global}
use Rattle.std.specs.contracts.alloc.Global as heap
use Rattle.std.specs.contracts.impls.GlobalAllocator.TheImpl.{ghosts}
use Rattle.shared.specs.declared.shared.Shared.TheInside.{Inside}
use Rattle.shared.specs.declared.shared.Shared.TheView.{view, invariant}
use Rattle.shared.specs.contracts.shared.Shared as contracts
use Rattle.shared.specs.contracts.shared.Shared.TheInside as inside

-- To contracts a `Shared` is its value, so it holds what its value holds.
abbrev pub the_former : Former {0} → Former {0}
the_former g = g

-- And it measures what its value measures.
abbrev pub the_weighed : {g : Former {0}} → Weighed g → Weighed (the_former g)
the_weighed w = w

-- The fields: an address, which holds nothing, and the value there.
abbrev fields : Former {0}
fields = via (pair (const Ptr) this) Inside (λ _ shared. (shared.inner.ptr, shared.inner.value))
    (λ _ parts. record { inner = record { ptr = parts.0; value = parts.1 } }) (λ _ _. refl) (λ _ _. refl)

-- The pointer at the same address, with another value there.
abbrev with_value : {X Y : Type 0} → Rc X Global → Y → Rc Y Global
with_value pointer value = record { ptr = pointer.ptr; value = value }

-- The type `Rc` of a type, on the heap.
abbrev rc_of : RattleType → RattleType
rc_of R = rc.the_row R heap.the_row ghosts

module _ (R S : RattleType) (h : R.Denot → S.Denot) where
  -- Where two types are laid out and owned alike, so are the pointers to them.
  rc_places : Alike R S h → Alike (rc_of R) (rc_of S) (λ pointer. with_value pointer (h pointer.value))
  unfolding part_of
  rc_places alike = record {
    mir_same = λ i. (rc_of (one_value R (alike.mir_same i) (λ _. ftrue) (λ _ _. nothing) gnil)).mir;
    own_same = λ p i. (rc_of (one_value R (alike.mir_same i) (alike.own_same p.value i) (alike.shr_same p.value i) gnil)).own_val (with_value p tt);
    shr_same = λ p i. (rc_of (one_value R (alike.mir_same i) (alike.own_same p.value i) (alike.shr_same p.value i) gnil)).shr_at (with_value p tt);
  }

  -- And so are the `Shared` of them.
  pub the_places : Alike R S h → Alike (contracts.the_row R) (contracts.the_row S) ((the_former this).map R.Denot S.Denot h)
  the_places alike = view_places fields this view (λ _ _ _ _. refl) (λ _ _. refl) R.Denot S.Denot h
      (contracts.the_row R).coded (contracts.the_row S).coded
      (invariant R.Denot) (invariant S.Denot) (λ _ _ _. refl) (λ _ _ _. refl) (λ _ _. tt) (λ _ _. tt)
      (over (inside.the_row R)) (over (inside.the_row S))
      (struct_places (inside.the_type R) (inside.the_type S) ((λ p. with_value p (h p.value)), tt) _
      (λ _. refl) refl (laid _ _ _ (rc_places alike), tt))

  -- A code of the values is one of the `Shared` of them.
  pub the_codes_placed : Recodes R S h → Recodes (contracts.the_row R) (contracts.the_row S) ((the_former this).map R.Denot S.Denot h)
  the_codes_placed recodes value = recodes value
