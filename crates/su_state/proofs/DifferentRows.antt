-- Rows that all differ stay so: with one more that is not there, with some left out, and in another order.
use Rattle.std.proofs.Common.{◌≡◌, zero, suc, Bool, true, false, List, [], ◌∷◌, refl, sym, subst, ◌∙◌, Contains, inl, inr, arith}
use Rattle.std.specs.Bool.{Decides}
use Rattle.std.specs.List.{items_where_true}
use Rattle.std.specs.List.Sorted.{IsPermutation}
use Rattle.std.proofs.lemmas.Map.Keys.{IsDistinct-IsPermutation}
use Rattle.std.proofs.lemmas.Map.Made.{AllPairs-from_IsDistinct, IsDistinct-from_AllPairs}
use Rattle.su_base.proofs.Items.{AllDiffer-push}
use Rattle.su_base.proofs.Same.{row_eq-Decides}
use Rattle.su_rel.proofs.Rows.{same, flips}
use Rattle.std.proofs.lemmas.List.{get_or_default}
use Rattle.su_base.specs.declared.values.Value.{Value}
use Rattle.su_rel.specs.Changes.{PutInAll}
use Rattle.su_base.specs.Lists.{AllDiffer}

abbrev Row : Type 0
Row = List Value

pub differ_none : AllDiffer {X = Row} []
differ_none i j d less within = absurd (omega arith)

pub differ_tail : (row : Row) (rows : List Row) → AllDiffer (row ∷ rows) → AllDiffer rows
differ_tail row rows differ i j d less within = differ (suc i) (suc j) d (omega (arith, less)) (omega (arith, within))

differ_head : (row : Row) (rows : List Row) → AllDiffer (row ∷ rows) → ¬ Contains rows row
differ_head row rows differ (k, within, is) = differ zero (suc k) row (omega arith) (omega (arith, within)) (sym is)

differ_cons : (row : Row) (rows : List Row) → (¬ Contains rows row) → AllDiffer rows → AllDiffer (row ∷ rows)
differ_cons row rows out differ zero zero d less within = absurd (omega (arith, less))
differ_cons row rows out differ zero (suc j) d less within =
    λ e. out (j, omega (arith, within), get_or_default rows j row d (omega (arith, within)) ∙ sym e)
differ_cons row rows out differ (suc i) zero d less within = absurd (omega (arith, less))
differ_cons row rows out differ (suc i) (suc j) d less within = differ i j d (omega (arith, less)) (omega (arith, within))

-- rows put in one after another
pub differ_put : (rows old new : List Row) → AllDiffer old → PutInAll old rows new → AllDiffer new
differ_put [] old new differ same = subst AllDiffer (sym same) differ
differ_put (row ∷ rows) old new differ (between, inl (there, same), rest) = differ_put rows between new (subst AllDiffer (sym same) differ) rest
differ_put (row ∷ rows) old new differ (between, inr (out, is), rest) = differ_put rows between new (subst AllDiffer (sym is) (AllDiffer-push old row differ out)) rest

among : (marks : List Bool) (rows : List Row) (row : Row) → Contains (items_where_true marks rows) row → Contains rows row
among [] rows row (k, within, is) = absurd (omega (arith, within))
among (b ∷ bs) [] row (k, within, is) = absurd (omega (arith, within))
among (true ∷ bs) (r ∷ rs) row (zero, within, is) = (zero, omega arith, is)
among (true ∷ bs) (r ∷ rs) row (suc k, within, is) =
    let rest = among bs rs row (k, omega (arith, within), is) in
    (suc rest.0, omega (arith, rest.1), rest.2)
among (false ∷ bs) (r ∷ rs) row there =
    let rest = among bs rs row there in
    (suc rest.0, omega (arith, rest.1), rest.2)

-- the marked rows
pub differ_marked : (marks : List Bool) (rows : List Row) → AllDiffer rows → AllDiffer (items_where_true marks rows)
differ_marked [] rows differ = differ_none
differ_marked (b ∷ bs) [] differ = differ_none
differ_marked (true ∷ bs) (r ∷ rs) differ = differ_cons r (items_where_true bs rs) (λ there. differ_head r rs differ (among bs rs r there)) (differ_marked bs rs (differ_tail r rs differ))
differ_marked (false ∷ bs) (r ∷ rs) differ = differ_marked bs rs (differ_tail r rs differ)

decides : (row other : Row) → Decides (same row other) (row ≡ other)
decides row other = row_eq-Decides row other _ refl

-- the same rows in another order
pub differ_moved : (rows moved : List Row) → IsPermutation rows moved → AllDiffer rows → AllDiffer moved
differ_moved rows moved perm differ = AllPairs-from_IsDistinct decides moved (IsDistinct-IsPermutation same flips rows moved perm (IsDistinct-from_AllPairs decides rows differ))
