-- Dropping row after row, from the last, by mappings of the rows that still stand.
use Rattle.std.proofs.Common.{◌≡◌, ◌<◌, ◌≤◌, ◌+◌, ◌^◌, ℕ, Bool, true, false, List, length, sym, subst, arith, ⊎_elim}
use Rattle.std.specs.Int.{bit_at}
use Rattle.std.proofs.lemmas.Bool.{cases_lt, cases_Bool}
use Rattle.std.proofs.lemmas.Nat.Bits.{bit_at_above}
use Rattle.su_tableau.specs.Tableaux.{Tab}
use Rattle.su_tableau.specs.Parts.{part}
use Rattle.su_tableau.specs.Mapping.{Maps}
use Rattle.su_tableau.proofs.Containment.{maps_compose}
use Rattle.su_map.specs.Lists.{IsMapping, IsFirst}
use Rattle.su_map.specs.Rooms.{Space, IsPreparedFor}
use Rattle.su_map.proofs.Members.{full_member}
use Rattle.su_map.proofs.Containment.{list_maps, maps_list}
use Rattle.su_map.proofs.Prepared.{prepared_fewer}
use Rattle.su_min.specs.Kept.{all_rows, IsKept, IsFold}
use Rattle.su_min.proofs.Parts.{into_maps, maps_into, part_maps, whole_maps, all_is}

-- the tableau maps to the part of these rows; this is what dropping keeps
abbrev pub Fits : Tab → ℕ → Type 0
Fits t m = Maps t (part t m)

pub full_is : (t : Tab) (all : ℕ) → all + 1 ≡ 2 ^ length t.rows → all ≡ all_rows t
full_is t all e = let a = all_is t in omega arith

pub fits_all : (t : Tab) (all : ℕ) → all + 1 ≡ 2 ^ length t.rows → Fits t all
fits_all t all e = subst (Fits t) (sym (full_is t all e)) (whole_maps t)

-- all rows map into all rows, so a room is prepared for them
pub is_prepared : (t : Tab) (all : ℕ) (room : Space) (b : Bool) → all + 1 ≡ 2 ^ length t.rows
    → (b ≡ true → IsPreparedFor t all t all room)
    → (b ≡ false → (list : List ℕ) → IsMapping t all t all list → ⊥)
    → IsPreparedFor t all t all room
is_prepared t all room b e found none =
    let f = maps_list t t all all (maps_compose (part t all) t (part t all) (part_maps t all) (fits_all t all e)) in
    ⊎_elim
    (λ (is : b ≡ true). found is)
    (λ (is : b ≡ false). absurd (none is f.0 f.1))
    (cases_Bool b)

-- a set that is no greater than that of all rows has no other number
member_of_all : (n all m j : ℕ) → all + 1 ≡ 2 ^ n → m ≤ all → bit_at m j ≡ 1 → bit_at all j ≡ 1
member_of_all n all m j e le one =
    (full_member all n j e).1
    (⊎_elim
    (λ (lt : j < n). lt)
    (λ (over : n ≤ j). absurd (let z = bit_at_above m n j (omega arith) over in omega arith))
    (cases_lt j n))

pub prepared_for : (t : Tab) (all m k : ℕ) (room : Space) → all + 1 ≡ 2 ^ length t.rows → IsPreparedFor t all t all room → m ≤ all → k ≤ all → IsPreparedFor t m t k room
prepared_for t all m k room e is lm lk =
    prepared_fewer t all m t all k room is (λ i h. member_of_all (length t.rows) all m i e lm h) (λ j h. member_of_all (length t.rows) all k j e lk h)

-- what stands maps into fewer rows: so does the whole
pub fits_fewer : (t : Tab) (kept fewer : ℕ) (list : List ℕ) → Fits t kept → IsMapping t kept t fewer list → Fits t fewer
fits_fewer t kept fewer list f g = maps_compose t (part t kept) (part t fewer) f (list_maps t t kept fewer list g)

-- the whole maps into fewer rows: so does what stands
pub none_fewer : (t : Tab) (kept fewer : ℕ) → ((list : List ℕ) → IsMapping t kept t fewer list → ⊥) → Fits t fewer → ⊥
none_fewer t kept fewer none f =
    let g = maps_list t t kept fewer (maps_compose (part t kept) t (part t fewer) (part_maps t kept) f) in
    none g.0 g.1

pub kept_from : (t : Tab) (m : ℕ) → Fits t m → ((n : ℕ) → Fits t n → m ≤ n) → IsKept t m
kept_from t m f least = record { maps = maps_into t m f; least = λ n g. least n (into_maps t n g) }

-- the first mapping into the kept rows is there
pub fold_from : (t : Tab) (all m : ℕ) (list : List ℕ) (b : Bool) → all + 1 ≡ 2 ^ length t.rows → IsKept t m
    → (b ≡ true → IsFirst t all t m list)
    → (b ≡ false → (other : List ℕ) → IsMapping t all t m other → ⊥)
    → IsFold t m list
fold_from t all m list b e kept found none =
    let same = full_is t all e in
    subst (λ a. IsFirst t a t m list) same
    (⊎_elim
    (λ (is : b ≡ true). found is)
    (λ (is : b ≡ false). absurd (none is kept.maps.0 (subst (λ a. IsMapping t a t m kept.maps.0) (sym same) kept.maps.1)))
    (cases_Bool b))

-- the kept rows are rows of the tableau
pub kept_within : (t : Tab) (m : ℕ) → IsKept t m → m < 2 ^ length t.rows
kept_within t m kept =
    let low = kept.least (all_rows t) (maps_into t (all_rows t) (whole_maps t)) in
    let e = all_is t in
    omega arith
