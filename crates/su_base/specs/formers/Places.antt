-- A `Box` of a value of one type beside a `Box` of a value of another.
-- places: where a type holds what may be moved or shared; boxes over two types are alike where the types are
use base.Fml.{ftrue}
use base.Stored.{gnil}
use denote.RattleType.{RattleType}
use denote.Memory.{part_of}
use denote.Sharing.{nothing}
use denote.HoleLaws.{Alike}
use denote.HolePlaces.{one_value}
use Rattle.std.specs.declared.alloc.Global.{Global}
use Rattle.std.specs.declared.boxed.Box.{Box}
use Rattle.std.specs.contracts.alloc.Global as heap
use Rattle.std.specs.contracts.boxed.Box as pointer
use Rattle.std.specs.contracts.impls.GlobalAllocator.TheImpl.{ghosts}

-- the box with another value in it
abbrev pub with_value : {X Y : Type 0} → Box X Global → Y → Box Y Global
with_value old value = record { ptr = old.ptr; alloc = old.alloc; value = value }

-- the box inside
abbrev box_of : RattleType → RattleType
box_of R = pointer.the_row R heap.the_row ghosts

-- it holds its one value at the same places over types whose values do
module _ (R S : RattleType) (h : R.Denot → S.Denot) where
  pub box_places : Alike R S h → Alike (box_of R) (box_of S) (λ old. with_value old (h old.value))
  unfolding part_of
  box_places alike = record {
    mir_same = λ i. (box_of (one_value R (alike.mir_same i) (λ _. ftrue) (λ _ _. nothing) gnil)).mir;
    own_same = λ old i. (box_of (one_value R (alike.mir_same i) (alike.own_same old.value i) (alike.shr_same old.value i) gnil)).own_val (with_value old tt);
    shr_same = λ old i. (box_of (one_value R (alike.mir_same i) (alike.own_same old.value i) (alike.shr_same old.value i) gnil)).shr_at (with_value old tt);
  }
