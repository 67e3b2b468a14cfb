-- How a `Boxed` stores its value, so that a type may hold a `Boxed` of itself: it is its value, which
-- its one field, a `Box`, stores behind a pointer.
use mathlib.Core.Path.{refl}
use mathlib.Core.Former.{Former, this, const, pair, via}
use base.Stored.{gnil}
use base.Fml.{ftrue}
use denote.RattleType.{RattleType}
use denote.Memory.{part_of}
use denote.RawPtr.{Ptr}
use denote.Sharing.{nothing}
use denote.HoleLaws.{Alike}
use denote.HolePlaces.{Recodes, struct_places, laid, one_value}
use denote.Hole.Fix.{over}
use denote.Param.Weighed.{Weighed}
use denote.Model.Placed.{view_places}
use Rattle.std.specs.declared.boxed.Box.{Box}
use Rattle.std.specs.contracts.boxed.Box as pointed
use Rattle.std.specs.declared.alloc.Global.{Global}
use Rattle.std.specs.contracts.alloc.Global as heap
use Rattle.std.specs.contracts.impls.GlobalAllocator.TheImpl.{ghosts}
use Rattle.gu_boxed.specs.declared.Boxed.TheInside.{Inside}
use Rattle.gu_boxed.specs.declared.Boxed.TheView.{view, invariant}
use Rattle.gu_boxed.specs.contracts.Boxed as C
use Rattle.gu_boxed.specs.contracts.Boxed.TheInside as I

abbrev pub the_former : Former {0} → Former {0}
the_former g = g

abbrev pub the_weighed : {g : Former {0}} → Weighed g → Weighed (the_former g)
the_weighed weighed = weighed

-- a box is its pointer, its allocator and its value
abbrev parts : Former {0}
parts = via (pair (const (Ptr × Global)) this) Inside (λ X inside. ((inside.content.ptr, inside.content.alloc), inside.content.value)) (λ X part. record { content = record { ptr = part.0.0; alloc = part.0.1; value = part.1 } }) (λ X inside. refl) (λ X part. refl)

-- a box with another value
abbrev refilled : {X Y : Type 0} → Box X Global → Y → Box Y Global
refilled box value = record { ptr = box.ptr; alloc = box.alloc; value = value }

abbrev pointer_to : RattleType → RattleType
pointer_to R = pointed.the_row R heap.the_row ghosts

module _ (R S : RattleType) (h : R.Denot → S.Denot) where
  pointer_places : Alike R S h → Alike (pointer_to R) (pointer_to S) (λ box. refilled box (h box.value))
  unfolding part_of
  pointer_places alike = record {
    mir_same = λ i. (pointer_to (one_value R (alike.mir_same i) (λ _. ftrue) (λ _ _. nothing) gnil)).mir;
    own_same = λ box i. (pointer_to (one_value R (alike.mir_same i) (alike.own_same box.value i) (alike.shr_same box.value i) gnil)).own_val (refilled box tt);
    shr_same = λ box i. (pointer_to (one_value R (alike.mir_same i) (alike.own_same box.value i) (alike.shr_same box.value i) gnil)).shr_at (refilled box tt);
  }

  pub the_places : Alike R S h → Alike (C.the_row R) (C.the_row S) ((the_former this).map R.Denot S.Denot h)
  the_places alike = view_places parts this view (λ X Y k u. refl) (λ X u. refl) R.Denot S.Denot h (C.the_row R).coded (C.the_row S).coded
      (invariant R.Denot) (invariant S.Denot) (λ u p q. refl) (λ u p q. refl) (λ u e. tt) (λ u e. tt)
      (over (I.the_row R)) (over (I.the_row S))
      (struct_places (I.the_type R) (I.the_type S) ((λ box. refilled box (h box.value)), tt) _ (λ value. refl) refl (laid _ _ _ (pointer_places alike), tt))

  pub the_codes_placed : Recodes R S h → Recodes (C.the_row R) (C.the_row S) ((the_former this).map R.Denot S.Denot h)
  the_codes_placed same value = same value
