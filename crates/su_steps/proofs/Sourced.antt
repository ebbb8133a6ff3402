-- The sources of a row, from those found among the objects so far.
use Rattle.std.proofs.Common.{◌≡◌, ◌↔◌, ℕ, ◌<◌, true, List, Some, length, slice_get, sym, subst}
use Rattle.std.specs.Prelude.{IsTrue}
use Rattle.std.specs.Int.{bit_at}
use Rattle.std.specs.Ordering.{nat_cmp}
use Rattle.std.specs.FinSet.{FinSet, contains, empty, is_subset}
use Rattle.std.proofs.lemmas.Option.{get_or_from_slice_get}
use Rattle.su_base.proofs.Subsets.{subset_at, subset_by}
use Rattle.su_tableau.specs.Tableaux.{Tab}
use Rattle.su_tableau.specs.Essential.{IsEssential, AreEssential}
use Rattle.su_schema.specs.SchemaValue.{SchemaValue}
use Rattle.su_steps.specs.Objects.{attributes_at}
use Rattle.su_steps.specs.Sources.{IsSource}

pub source_is : (schema : SchemaValue) (t : Tab) (m r o : ℕ) (columns found : FinSet nat_cmp) (n : ℕ) → ((c : ℕ) → IsTrue (contains columns c) ↔ IsEssential t m r c) → n ≡ length schema.objects
    → ((o : ℕ) → (contains found o ≡ true) ↔ ((o < n) × (is_subset columns (attributes_at schema o) ≡ true))) → IsTrue (contains found o) ↔ IsSource schema t m r o
source_is schema t m r o columns found n essential all so = (
  λ one. let w = (so o).0 one in record { object = subst (λ k. o < k) all w.0; has_columns = λ c e. subset_at columns (attributes_at schema o) c w.1 ((essential c).1 e) },
  λ s. (so o).1 (subst (λ k. o < k) (sym all) s.object, subset_by columns (attributes_at schema o) (λ c h. s.has_columns c ((essential c).0 h))),
)

pub found_are : (schema : SchemaValue) (columns found : FinSet nat_cmp) (n : ℕ) → n ≡ length schema.objects → ((o : ℕ) → (contains found o ≡ true) ↔ ((o < n) × (is_subset columns (attributes_at schema o) ≡ true)))
    → (o : ℕ) → IsTrue (contains found o) ↔ ((o < length schema.objects) × IsTrue (is_subset columns (attributes_at schema o)))
found_are schema columns found n all so o = (λ one. let w = (so o).0 one in (subst (λ k. o < k) all w.0, w.1), λ h. (so o).1 (subst (λ k. o < k) (sym all) h.0, h.1))

-- a row's essential columns are those at its place
pub own_columns : (t : Tab) (m : ℕ) (columns : List (FinSet nat_cmp)) (r : ℕ) (own : FinSet nat_cmp) → AreEssential t m columns → r < length t.rows → slice_get columns r ≡ Some own → bit_at m r ≡ 1 → (c : ℕ) → IsTrue (contains own c) ↔ IsEssential t m r c
own_columns t m columns r own are low at set c = subst (λ (s : FinSet nat_cmp). IsTrue (contains s c) ↔ IsEssential t m r c) (get_or_from_slice_get columns r own empty at) (are r c low set)
