-- A recursive type may hold itself through `List`: its items are those of the `Vec` inside, in order.
-- the_former, the_weighed: what `List<T>` holds for each T, in the form by which the checker admits a type that holds itself
use mathlib.Core.Path.{◌≡◌, refl, sym}
use mathlib.Core.List.{List as Items, []}
use mathlib.Core.Former.{Former, this, list, via, children}
use base.Stored.{code_map}
use denote.RattleType.{RattleType}
use denote.HoleLaws.{Alike}
use denote.HolePlaces.{Recodes, struct_places, laid}
use denote.Hole.Carrier.{listed, list-listed}
use denote.Hole.Fix.{over}
use denote.Param.Weighed.{Weighed, w_list}
use denote.Model.Placed.{view_places}
use Rattle.std.specs.declared.alloc.Global.{Global}
use Rattle.std.specs.contracts.alloc.Global as heap
use Rattle.std.specs.contracts.impls.GlobalAllocator.TheImpl.{ghosts}
use Rattle.std.specs.formers.vec.Vec as inner
use Rattle.su_base.specs.declared.lists.List.TheInside.{Inside}
use Rattle.su_base.specs.declared.lists.List.TheView.{view, invariant}
use Rattle.su_base.specs.contracts.lists.List as contract
use Rattle.su_base.specs.contracts.lists.List.TheInside as fields

-- a list of what the parameter holds
abbrev pub the_former : Former {0} → Former {0}
the_former held = list held

-- it takes room as a list does
abbrev pub the_weighed : {held : Former {0}} → Weighed held → Weighed (the_former held)
the_weighed weight = w_list weight

-- a list may hold nothing, so it is a base case of a recursive type
pub the_empty : Items ⊥
the_empty = []

-- the items of a list of items: that list
abbrev pub the_items : (X : Type 0) → Items X → Items X
the_items X items = items

-- they are what the former lists
pub the_items_listed : (X : Type 0) (items : Items X) → listed _ (children (the_former this) X items) ≡ the_items X items
the_items_listed X items = list-listed X items

-- the one field, a `Vec`, as a former
abbrev of_fields : Former {0}
of_fields = via (inner.the_former this Global) Inside (λ X list. list.items) (λ X vec. record { items = vec }) (λ X list. refl) (λ X vec. refl)

module _ (R S : RattleType) (h : R.Denot → S.Denot) where
  pub the_places : Alike R S h → Alike (contract.the_row R) (contract.the_row S) ((the_former this).map R.Denot S.Denot h)
  the_places alike =
      view_places of_fields (list this) view (λ X Y k u. refl) (λ X u. refl) R.Denot S.Denot h
      (contract.the_row R).coded (contract.the_row S).coded
      (invariant R.Denot) (invariant S.Denot) (λ u p q. refl) (λ u p q. refl) (λ u e. tt) (λ u e. tt)
      (over (fields.the_row R)) (over (fields.the_row S))
      (struct_places (fields.the_type R) (fields.the_type S) (inner.mapped h, tt) _ (λ d. refl) refl (laid _ _ _ (inner.the_places heap.the_row ghosts R S h alike), tt))

  pub the_codes_placed : Recodes R S h → Recodes (contract.the_row R) (contract.the_row S) ((the_former this).map R.Denot S.Denot h)
  the_codes_placed same items = sym (code_map R.coded.code S.coded.code h (λ x. sym (same x)) items)
