-- The objects of a schema by their numbers: their entries, attributes and columns.
use Rattle.std.proofs.Common.{◌≡◌, ◌↔◌, ◌+◌, false, inl, inr, ◌<◌, ◌≤◌, ℕ, true, List, [], ◌∷◌, ◌++◌, length, map, slice_get, get_or, Contains, All, Some, None, refl, sym, ap, subst, ◌∙◌, arith, ⊎_elim}
use Rattle.std.specs.Prelude.{option_map, IsTrue}
use Rattle.std.specs.List.{AllZip, range_with_len}
use Rattle.std.specs.Ordering.{nat_cmp}
use Rattle.std.specs.FinSet.{FinSet, contains, empty, insert, members}
use Rattle.std.proofs.lemmas.Bool.{cases_eq, false≢true}
use Rattle.std.proofs.lemmas.Bool.Decides.{nat_tests}
use Rattle.std.proofs.lemmas.List.Elements.{Contains-get_or}
use Rattle.std.proofs.lemmas.List.FromFn.{length-range_with_len}
use Rattle.std.proofs.lemmas.Option.{slice_get_within, slice_get-map, slice_get-get_or, get_or_from_slice_get, none-some}
use Rattle.std.proofs.lemmas.Slice.Zip.{all_zipped_more}
use Rattle.su_base.proofs.PassingNumbers.{passing_in, passing_out}
use Rattle.su_base.proofs.Items.{Contains-cases, Contains-filter, Contains-filter_source, Contains-later, Contains-nil, Contains-range, Contains-range_below, length-filter}
use Rattle.su_schema.specs.SchemaValue.{SchemaValue, ObjectEntry}
use Rattle.su_schema.specs.Valid.{IsValid, IsObject}
use Rattle.su_schema.specs.Entries.{column_of, attributes_of}
use Rattle.su_schema.specs.Cuts.{attributes_at}
use Rattle.su_schema.specs.SetMembers.{numbers_in}
use Rattle.su_schema.proofs.Entries.{blank_object}
use Rattle.su_state.proofs.Columns.{column_of_attribute, column_answered}

pub object_is : (schema : SchemaValue) (o : ℕ) (entry : ObjectEntry) → IsValid schema → slice_get schema.objects o ≡ Some entry → IsObject schema entry
object_is schema o entry valid at = subst (IsObject schema) (get_or_from_slice_get schema.objects o entry entry at) (valid.objects o entry (slice_get_within schema.objects o entry at))

-- the attributes of an object, by its number
pub attributes_by : (schema : SchemaValue) (o : ℕ) (object : ObjectEntry) → slice_get schema.objects o ≡ Some object → attributes_at schema o ≡ attributes_of object
attributes_by schema o object at = get_or_from_slice_get (map attributes_of schema.objects) o (attributes_of object) empty (slice_get-map attributes_of schema.objects o ∙ ap (option_map attributes_of) at)

-- as the schema answers them
pub attributes_answered : (schema : SchemaValue) (o : ℕ) (answer : FinSet nat_cmp) → slice_get (map attributes_of schema.objects) o ≡ Some answer → answer ≡ attributes_at schema o
attributes_answered schema o answer at = sym (get_or_from_slice_get (map attributes_of schema.objects) o answer empty at)

-- an object's own attribute has a column
pub column_there : (schema : SchemaValue) (o a : ℕ) → o < length schema.objects → contains (attributes_at schema o) a ≡ true → slice_get (map (λ object. column_of object a) schema.objects) o ≡ Some None → ⊥
column_there schema o a low own is =
    let entry = get_or schema.objects o blank_object in
    let at : slice_get schema.objects o ≡ Some entry = slice_get-get_or schema.objects o blank_object low in
    let k = column_of_attribute entry a (subst (λ s. contains s a ≡ true) (attributes_by schema o entry at) own) in
    none-some k.0 (sym (column_answered schema o a entry None at is) ∙ k.1)

-- ---- the numbers of a set

pub in_numbers : (s : FinSet nat_cmp) (n k : ℕ) → k < n → IsTrue (contains s k) → Contains (numbers_in s n) k
in_numbers s n k low has = Contains-filter (contains s) (range_with_len 0 n) k (Contains-range n k low) has

pub from_numbers : (s : FinSet nat_cmp) (n k : ℕ) → Contains (numbers_in s n) k → (k < n) × IsTrue (contains s k)
from_numbers s n k c = let w = Contains-filter_source (contains s) (range_with_len 0 n) k c in (Contains-range_below n k w.0, w.1)

pub all_numbers : (s : FinSet nat_cmp) (n : ℕ) → All (λ a. IsTrue (contains s a)) (numbers_in s n)
all_numbers s n k d l = (from_numbers s n (get_or (numbers_in s n) k d) (Contains-get_or (numbers_in s n) k d l)).1

pub few_numbers : (s : FinSet nat_cmp) (n : ℕ) → length (numbers_in s n) ≤ n
few_numbers s n = let f = length-filter (contains s) (range_with_len 0 n) in let r = length-range_with_len 0 n in omega (arith, f, r)

-- ---- lists beside the numbers of a set, one number more

pub zip_more : {B : Type 0} (R : ℕ → B → Type 0) (s : FinSet nat_cmp) (n : ℕ) (before next : List B) (y : B) → AllZip R (numbers_in s n) before → contains s n ≡ true → R n y → next ≡ before ++ y ∷ [] → AllZip R (numbers_in s (n + 1)) next
zip_more {B} R s n before next y all has is e =
    subst (λ (ns : List ℕ). AllZip R ns next) (sym (passing_in (contains s) n has))
    (subst (λ (ys : List B). AllZip R (numbers_in s n ++ n ∷ []) ys) (sym e) (all_zipped_more R (numbers_in s n) before n y all is))

pub zip_same : {B : Type 0} (R : ℕ → B → Type 0) (s : FinSet nat_cmp) (n : ℕ) (before next : List B) → AllZip R (numbers_in s n) before → contains s n ≡ false → next ≡ before → AllZip R (numbers_in s (n + 1)) next
zip_same {B} R s n before next all out e =
    subst (λ (ns : List ℕ). AllZip R ns next) (sym (passing_out (contains s) n out)) (subst (λ (ys : List B). AllZip R (numbers_in s n) ys) (sym e) all)

-- ---- the set of one number

pub one_has : (o k : ℕ) → IsTrue (contains {R = nat_cmp} (insert empty o) k) ↔ (k ≡ o)
one_has o k = (
  λ t.
      elim (cases_eq k o) [
        | inl e ↦ e
        | inr apart ↦ let out : contains {R = nat_cmp} (insert empty o) k ≡ false = grind (arith, nat_tests, members, apart) in absurd (false≢true (sym out ∙ t))
      ],
  λ e. rw e (grind (arith, nat_tests, members)),
)

-- ---- members of two lists that belong together, place by place

pub zip_first : {A B : Type 0} (R : A → B → Type 0) (xs : List A) (ys : List B) (x : A) → AllZip R xs ys → Contains xs x → (y : B) × Contains ys y × R x y
zip_first R [] ys x h c = absurd (Contains-nil x c)
zip_first R (z ∷ xs) [] x h c = absurd h
zip_first {A} R (z ∷ xs) (w ∷ ys) x h c =
    ⊎_elim
    (λ (e : z ≡ x). (w, (0, omega arith, refl), subst (λ (q : A). R q w) e h.0))
    (λ (r : Contains xs x). let k = zip_first R xs ys x h.1 r in (k.0, Contains-later w ys k.0 k.1, k.2))
    (Contains-cases z xs x c)

pub zip_second : {A B : Type 0} (R : A → B → Type 0) (xs : List A) (ys : List B) (y : B) → AllZip R xs ys → Contains ys y → (x : A) × Contains xs x × R x y
zip_second R xs [] y h c = absurd (Contains-nil y c)
zip_second R [] (w ∷ ys) y h c = absurd h
zip_second {A} {B} R (z ∷ xs) (w ∷ ys) y h c =
    ⊎_elim
    (λ (e : w ≡ y). (z, (0, omega arith, refl), subst (λ (q : B). R z q) e h.0))
    (λ (r : Contains ys y). let k = zip_second R xs ys y h.1 r in (k.0, Contains-later z xs k.0 k.1, k.2))
    (Contains-cases w ys y c)
