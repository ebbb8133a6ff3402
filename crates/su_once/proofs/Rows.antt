-- Ascending lists of rows with the same members are equal.
use Rattle.std.proofs.Common.{◌≡◌, ◌≢◌, zero, suc, false, List, [], ◌∷◌, get_or, refl, ap, sym, ◌∙◌, subst, Contains, arith}
use Rattle.std.specs.List.{AllByRecursion}
use Rattle.std.specs.List.Sorted.{IsSorted, IsStrictlySortedBy}
use Rattle.std.specs.Ordering.{is_lt, ordering_reverse}
use Rattle.std.specs.declared.cmp.Ordering.{Ordering}
use Rattle.std.specs.declared.cmp.Ordering.TheVariants.{Less, Equal, Greater}
use Rattle.std.proofs.lemmas.Bool.{false≢true}
use Rattle.std.proofs.lemmas.List.MinMax.{ranks_by}
use Rattle.std.proofs.lemmas.List.Sorted.{sorted_far}
use Rattle.su_base.specs.declared.values.Value.{Value}
use Rattle.su_base.specs.Value.{compare_lists}
use Rattle.su_base.proofs.Rows.{rows_total, equal_rows}
use Rattle.su_base.specs.Lists.{AllDiffer}
use Rattle.su_once.proofs.Lists.{Ascends, one_ascending, ascends_from}

abbrev Row : Type 0
Row = List Value

abbrev pub Before : Row → Row → Type 0
Before a b = compare_lists a b ≡ Less

pub never_before : (a b : Row) → Before a b → Before b a → ⊥
never_before a b less more =
    let other : Less ≡ Greater = sym less ∙ rows_total.antisymm a b ∙ ap ordering_reverse more in
    cc

pub at_most_both : (o p : Ordering) → o ≢ Greater → p ≢ Greater → o ≡ ordering_reverse p → o ≡ Equal
at_most_both Equal p a b e = refl
at_most_both Greater p a b e = absurd (a refl)
at_most_both Less Less a b e = absurd (cc)
at_most_both Less Equal a b e = absurd (cc)
at_most_both Less Greater a b e = absurd (b refl)

each_of : (x : Row) (xs : List Row) → AllByRecursion (λ y. compare_lists x y ≡ Less) xs → (y : Row) → Contains xs y → Before x y
each_of x [] all y (k, within, is) = absurd (omega (arith, within))
each_of x (z ∷ zs) all y (zero, within, is) = subst (Before x) is all.0
each_of x (z ∷ zs) all y (suc k, within, is) = each_of x zs all.1 y (k, omega (arith, within), is)

ascends_strictly : (xs : List Row) → IsStrictlySortedBy compare_lists xs → Ascends Before xs
unfolding IsStrictlySortedBy
ascends_strictly [] sorted = tt
ascends_strictly (x ∷ xs) sorted = (each_of x xs sorted.0, ascends_strictly xs sorted.1)

-- strictly ascending
pub one_strict_list : (xs ys : List Row) → IsStrictlySortedBy compare_lists xs → IsStrictlySortedBy compare_lists ys → ((z : Row) → Contains xs z → Contains ys z) → ((z : Row) → Contains ys z → Contains xs z) → xs ≡ ys
one_strict_list xs ys a b f g = one_ascending Before never_before xs ys (ascends_strictly xs a) (ascends_strictly ys b) f g

less_since : (o p : Ordering) → is_lt p ≡ false → o ≢ Equal → o ≡ ordering_reverse p → o ≡ Less
less_since Less p out differ e = refl
less_since Equal p out differ e = absurd (differ refl)
less_since Greater Less out differ e = absurd (false≢true (sym out))
less_since Greater Equal out differ e = absurd (cc)
less_since Greater Greater out differ e = absurd (cc)

ascends_once : (xs : List Row) → IsSorted compare_lists xs → AllDiffer xs → Ascends Before xs
ascends_once xs sorted differ =
    ascends_from Before xs []
    (λ i j less within.
    less_since (compare_lists (get_or xs i []) (get_or xs j [])) (compare_lists (get_or xs j []) (get_or xs i []))
    (sorted_far (λ x y. is_lt (compare_lists x y)) (ranks_by rows_total (λ x. x)) xs sorted i j [] (omega (arith, less)) within)
    (λ tied. differ i j [] less within (equal_rows (get_or xs i []) (get_or xs j []) tied))
    (rows_total.antisymm (get_or xs i []) (get_or xs j [])))

-- ascending, each once
pub one_sorted_list : (xs ys : List Row) → IsSorted compare_lists xs → AllDiffer xs → IsSorted compare_lists ys → AllDiffer ys → ((z : Row) → Contains xs z → Contains ys z) → ((z : Row) → Contains ys z → Contains xs z) → xs ≡ ys
one_sorted_list xs ys a once b only f g = one_ascending Before never_before xs ys (ascends_once xs a once) (ascends_once ys b only) f g
