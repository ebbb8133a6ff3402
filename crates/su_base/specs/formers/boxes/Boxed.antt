-- A recursive type may hold itself through `Boxed`: it holds one value, that of the `Box` inside.
-- the_former, the_weighed: what `Boxed<T>` holds for each T, in the form by which the checker admits a type that holds itself
use mathlib.Core.Path.{refl}
use mathlib.Core.Former.{Former, this, const, pair, via}
use denote.RattleType.{RattleType}
use denote.RawPtr.{Ptr}
use denote.HoleLaws.{Alike}
use denote.HolePlaces.{Recodes, struct_places, laid}
use denote.Hole.Fix.{over}
use denote.Param.Weighed.{Weighed}
use denote.Model.Placed.{view_places}
use Rattle.std.specs.declared.alloc.Global.{Global}
use Rattle.su_base.specs.formers.Places.{with_value, box_places}
use Rattle.su_base.specs.declared.boxes.Boxed.TheInside.{Inside}
use Rattle.su_base.specs.declared.boxes.Boxed.TheView.{view, invariant}
use Rattle.su_base.specs.contracts.boxes.Boxed as contract
use Rattle.su_base.specs.contracts.boxes.Boxed.TheInside as fields

-- what the parameter holds, and nothing beside
abbrev pub the_former : Former {0} → Former {0}
the_former held = held

-- it takes room as what it holds does
abbrev pub the_weighed : {held : Former {0}} → Weighed held → Weighed (the_former held)
the_weighed weight = weight

-- the one field, a `Box`, as a former: where it points and its allocator are the shape
abbrev of_fields : Former {0}
of_fields =
    via (pair (const (Ptr × Global)) this) Inside (λ X boxed. ((boxed.inner.ptr, boxed.inner.alloc), boxed.inner.value))
    (λ X parts. record { inner = record { ptr = parts.0.0; alloc = parts.0.1; value = parts.1 } }) (λ X boxed. refl) (λ X parts. refl)

module _ (R S : RattleType) (h : R.Denot → S.Denot) where
  pub the_places : Alike R S h → Alike (contract.the_row R) (contract.the_row S) ((the_former this).map R.Denot S.Denot h)
  the_places alike =
      view_places of_fields this view (λ X Y k u. refl) (λ X u. refl) R.Denot S.Denot h
      (contract.the_row R).coded (contract.the_row S).coded
      (invariant R.Denot) (invariant S.Denot) (λ u p q. refl) (λ u p q. refl) (λ u e. tt) (λ u e. tt)
      (over (fields.the_row R)) (over (fields.the_row S))
      (struct_places (fields.the_type R) (fields.the_type S) ((λ old. with_value old (h old.value)), tt) _ (λ d. refl) refl (laid _ _ _ (box_places R S h alike), tt))

  pub the_codes_placed : Recodes R S h → Recodes (contract.the_row R) (contract.the_row S) ((the_former this).map R.Denot S.Denot h)
  the_codes_placed same boxed = same boxed
