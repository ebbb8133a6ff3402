-- Equal values have one lead: to compare it first changes nothing where values are equal.
use Rattle.std.proofs.Common.{◌≡◌, ℕ, false, ap, refl, arith, nat_lt}
use Rattle.std.specs.Ordering.{nat_cmp, ordering_then, is_lt, is_eq}
use Rattle.std.specs.Cmp.{nat_cmp_is}
use Rattle.std.specs.declared.cmp.Ordering.{Ordering}
use Rattle.std.specs.declared.cmp.Ordering.TheVariants.{Less, Equal, Greater}
use Rattle.std.proofs.lemmas.Bool.Decides.{nat_tests}
use Rattle.su_base.specs.declared.values.Value.{Value}
use Rattle.su_base.specs.Value.{compare_values}
use Rattle.su_base.proofs.Rows.{equal_values}
use Rattle.su_index.specs.inside.Lead.{lead_of, IsLead}
use Rattle.su_index.specs.inside.Order.{compare_keys}

apart_still : (c o : Ordering) → is_eq o ≡ false → is_eq (ordering_then c o) ≡ false
apart_still Less o e = refl
apart_still Equal o e = e
apart_still Greater o e = refl

-- values are equal as keys exactly where they are equal
pub same_values : (v w : Value) → is_eq (compare_keys v w) ≡ is_eq (compare_values v w)
same_values v w =
    elim (compare_values v w) as (λ o. compare_values v w ≡ o → is_eq (ordering_then (nat_cmp (lead_of v) (lead_of w)) o) ≡ is_eq o) [
      | Less ↦ λ e. apart_still (nat_cmp (lead_of v) (lead_of w)) Less refl
      | Equal ↦ λ e. rw (← nat_cmp_is (lead_of v) (lead_of w) Equal (ap lead_of (equal_values v w e))) refl
      | Greater ↦ λ e. apart_still (nat_cmp (lead_of v) (lead_of w)) Greater refl
    ] refl

differ : (m n : ℕ) (o : Ordering) → (m ≡ n → ⊥) → is_lt (ordering_then (nat_cmp m n) o) ≡ nat_lt m n
differ m n o apart = grind (arith, nat_tests, apart)

then_assoc : (o p q : Ordering) → ordering_then (ordering_then o p) q ≡ ordering_then o (ordering_then p q)
then_assoc Less p q = refl
then_assoc Equal p q = refl
then_assoc Greater p q = refl

-- where the leads differ they tell the order
pub lead_tells : (m n : ℕ) (v w : Value) (o : Ordering) → IsLead m v → IsLead n w → (m ≡ n → ⊥) → is_lt (ordering_then (compare_keys v w) o) ≡ nat_lt m n
lead_tells m n v w o a b apart =
    rw (← a, ← b, then_assoc (nat_cmp m n) (compare_values v w) o) (differ m n (ordering_then (compare_values v w) o) apart)

-- where they are the same the values do
pub lead_tied : (m n : ℕ) (v w : Value) (o : Ordering) → IsLead m v → IsLead n w → m ≡ n → is_lt (ordering_then (compare_keys v w) o) ≡ is_lt (ordering_then (compare_values v w) o)
lead_tied m n v w o a b e = rw (← a, ← b, ← nat_cmp_is m n Equal e) refl
