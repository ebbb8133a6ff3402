-- Values that are told as the same are equal, and the values of a sorted list are distinct.
use Rattle.std.proofs.Common.{◌≡◌, ◌⊎◌, ⊎_elim, true, false, List, [], ◌∷◌, refl, sym, ap, ◌∙◌}
use Rattle.std.specs.Ordering.{is_eq}
use Rattle.std.specs.List.{AllByRecursion}
use Rattle.std.specs.List.Sorted.{IsStrictlySortedBy}
use Rattle.std.specs.declared.cmp.Ordering.TheVariants.{Less, Equal}
use Rattle.std.proofs.lemmas.Cmp.{tied_itself}
use Rattle.std.proofs.lemmas.Bool.{cases_Bool, cond-false}
use Rattle.su_base.specs.declared.values.Value.{Value}
use Rattle.su_base.specs.Value.{compare_values}
use Rattle.su_base.proofs.Rows.{values_total, equal_values}
use Rattle.su_base.proofs.Numbers.{is_eq-Equal}
use Rattle.su_classes.specs.inside.Symbols.{same_value, has_constant, AreDistinct}

pub same_itself : (v : Value) → same_value v v ≡ true
same_itself v = ap is_eq (tied_itself values_total v)

pub same_is : (v c : Value) → same_value v c ≡ true → v ≡ c
same_is v c h = equal_values v c (is_eq-Equal (compare_values v c) h)

-- ---- values that ascend

-- a value is not among greater ones
not_greater : (v : Value) (vs : List Value) → AllByRecursion (λ y. compare_values v y ≡ Less) vs → has_constant vs v ≡ false
not_greater v [] h = refl
not_greater v (w ∷ ws) h =
    ⊎_elim
    (λ (t : same_value w v ≡ true).
    let e : compare_values v v ≡ Less = ap (compare_values v) (sym (same_is w v t)) ∙ h.0 in
    let s : compare_values v v ≡ Equal = tied_itself values_total v in
    absurd (cc))
    (λ (f : same_value w v ≡ false). cond-false (same_value w v) true (has_constant ws v) f ∙ not_greater v ws h.1)
    (cases_Bool (same_value w v))

pub sorted_distinct : (vs : List Value) → IsStrictlySortedBy compare_values vs → AreDistinct vs
unfolding IsStrictlySortedBy
sorted_distinct [] h = tt
sorted_distinct (v ∷ vs) h = (not_greater v vs h.0, sorted_distinct vs h.1)
