-- `Boxed` as a type that may hold the type that holds it.
use mathlib.Core.Path.{refl}
use mathlib.Core.Former.{Former, this, const, pair, via}
use base.Stored.{gnil}
use base.Fml.{ftrue}
use denote.RattleType.{RattleType}
use denote.Memory.{part_of}
use denote.RawPtr.{Ptr}
use denote.Sharing.{nothing}
use denote.HoleLaws.{Alike}
use denote.HolePlaces.{Recodes, struct_places, laid, one_value}
use denote.Hole.Fix.{over}
use denote.Param.Weighed.{Weighed}
use denote.Model.Placed.{view_places}
use Rattle.std.specs.declared.boxed.Box.{Box}
use Rattle.std.specs.contracts.boxed.Box as box
use Rattle.std.specs.declared.alloc.Global.{Global}
use Rattle.std.specs.contracts.alloc.Global as heap
use Rattle.std.specs.contracts.impls.GlobalAllocator.TheImpl.{ghosts}
use Rattle.pig_value.specs.declared.boxes.Boxed.TheInside.{Inside}
use Rattle.pig_value.specs.declared.boxes.Boxed.TheView.{view, invariant}
use Rattle.pig_value.specs.contracts.boxes.Boxed as C
use Rattle.pig_value.specs.contracts.boxes.Boxed.TheInside as I

abbrev pub the_former : Former {0} → Former {0}
the_former held = held

abbrev pub the_weighed : {held : Former {0}} → Weighed held → Weighed (the_former held)
the_weighed weighed = weighed

-- the one field, a box: where it lies, its allocator, and what it holds
abbrev layout : Former {0}
layout = via (pair (const (Ptr × Global)) this) Inside (λ X inside. ((inside.inner.ptr, inside.inner.alloc), inside.inner.value))
    (λ X v. record { inner = record { ptr = v.0.0; alloc = v.0.1; value = v.1 } }) (λ X inside. refl) (λ X v. refl)

abbrev holding : {X Y : Type 0} → Box X Global → Y → Box Y Global
holding b held = record { ptr = b.ptr; alloc = b.alloc; value = held }

abbrev boxed_row : RattleType → RattleType
boxed_row R = box.the_row R heap.the_row ghosts

module _ (R S : RattleType) (h : R.Denot → S.Denot) where
  boxes_alike : Alike R S h → Alike (boxed_row R) (boxed_row S) (λ b. holding b (h b.value))
  unfolding part_of
  boxes_alike alike = record {
    mir_same = λ i. (boxed_row (one_value R (alike.mir_same i) (λ _. ftrue) (λ _ _. nothing) gnil)).mir;
    own_same = λ b i. (boxed_row (one_value R (alike.mir_same i) (alike.own_same b.value i) (alike.shr_same b.value i) gnil)).own_val (holding b tt);
    shr_same = λ b i. (boxed_row (one_value R (alike.mir_same i) (alike.own_same b.value i) (alike.shr_same b.value i) gnil)).shr_at (holding b tt);
  }

  pub the_places : Alike R S h → Alike (C.the_row R) (C.the_row S) ((the_former this).map R.Denot S.Denot h)
  the_places alike = view_places layout this view (λ X Y k u. refl) (λ X u. refl) R.Denot S.Denot h (C.the_row R).coded (C.the_row S).coded
      (invariant R.Denot) (invariant S.Denot) (λ u p q. refl) (λ u p q. refl) (λ u e. tt) (λ u e. tt)
      (over (I.the_row R)) (over (I.the_row S))
      (struct_places (I.the_type R) (I.the_type S) ((λ b. holding b (h b.value)), tt) _ (λ d. refl) refl (laid _ _ _ (boxes_alike alike), tt))

  pub the_codes_placed : Recodes R S h → Recodes (C.the_row R) (C.the_row S) ((the_former this).map R.Denot S.Denot h)
  the_codes_placed recodes held = recodes held
