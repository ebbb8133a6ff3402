-- Of some breaches one is the first, and a row has one first value of another kind.
use Rattle.std.proofs.Common.{◌≡◌, ℕ, List, map, slice_get, Some, refl, ap, sym, ◌∙◌, inl, inr, arith}
use Rattle.std.specs.Prelude.{option_map}
use Rattle.std.proofs.lemmas.Bool.{cases_lt}
use Rattle.std.proofs.lemmas.Option.{slice_get-map}
use Rattle.std.specs.Cmp.{IsTotalOrder}
use Rattle.std.specs.Ordering.{nat_cmp, ordering_then}
use Rattle.std.specs.declared.cmp.Ordering.{Ordering}
use Rattle.std.specs.declared.cmp.Ordering.TheVariants.{Less, Equal, Greater}
use Rattle.std.proofs.lemmas.Cmp.{nat_cmp_total, on_total, then_total, ranked}
use Rattle.su_base.specs.declared.values.Value.{Value}
use Rattle.su_base.specs.declared.values.Column.{Column}
use Rattle.su_base.specs.Value.{kind_of, compare_lists}
use Rattle.su_base.proofs.Rows.{rows_total, equal_rows}
use Rattle.su_state.specs.declared.faults.StateFault.{StateFault}
use Rattle.su_state.specs.declared.faults.StateFault.TheVariants.{UnknownRelation, Width, Kind as OtherKind, Breaks, Limit, NoMemory}
use Rattle.su_state.specs.DatabaseValue.{HasColumnKinds}
use Rattle.su_state.specs.UnfitRows.{IsFirstOtherKind, IsUnfit}
use Rattle.su_state.specs.Breaches.{Breach, compare_breaches, IsFirstOf}
use Rattle.su_state.proofs.Filled.{typed_width}
use Rattle.su_once.proofs.Rows.{at_most_both}

-- ---- the first of some breaches

then_tied : (a b : Ordering) → ordering_then a b ≡ Equal → (a ≡ Equal) × (b ≡ Equal)
then_tied Less b tied = absurd (cc)
then_tied Equal b tied = (refl, tied)
then_tied Greater b tied = absurd (cc)

breaches_total : IsTotalOrder compare_breaches
breaches_total = then_total (on_total (λ (b : Breach). b.dependency) nat_cmp_total) (then_total (on_total (λ (b : Breach). b.object) nat_cmp_total) (then_total (on_total (λ (b : Breach). b.first) rows_total) (on_total (λ (b : Breach). b.second) rows_total)))

pub one_first : (Among : Breach → Type 0) (b c : Breach) → IsFirstOf Among b → IsFirstOf Among c → b ≡ c
one_first Among b c h k =
    let tied : compare_breaches b c ≡ Equal = at_most_both (compare_breaches b c) (compare_breaches c b) (h.1 c k.0) (k.1 b h.0) (breaches_total.antisymm b c) in
    let (f, later) = then_tied (nat_cmp b.dependency c.dependency) _ tied in
    let (o, rows) = then_tied (nat_cmp b.object c.object) _ later in
    let (x, y) = then_tied (compare_lists b.first c.first) (compare_lists b.second c.second) rows in
    let fd : b.dependency ≡ c.dependency = ranked b.dependency c.dependency Equal (sym f) in
    let object : b.object ≡ c.object = ranked b.object c.object Equal (sym o) in
    let first = equal_rows b.first c.first x in
    let second = equal_rows b.second c.second y in
    λ i. record { dependency = fd i; object = object i; first = first i; second = second i }

-- the same breaches have the same first one
pub first_among : (Among Others : Breach → Type 0) → ((c : Breach) → Among c → Others c) → ((c : Breach) → Others c → Among c) → (b : Breach) → IsFirstOf Among b → IsFirstOf Others b
first_among Among Others forth back b h = (forth b h.0, λ c other. h.1 c (back c other))

-- ---- rows that don't fit

kind_at : (columns : List Column) (row : List Value) (k : ℕ) (column : Column) (value : Value) → HasColumnKinds columns row → slice_get columns k ≡ Some column → slice_get row k ≡ Some value → kind_of value ≡ column.kind
kind_at columns row k column value typed at there =
    let one : slice_get (map kind_of row) k ≡ Some (kind_of value) = slice_get-map kind_of row k ∙ ap (option_map kind_of) there in
    let other : slice_get (map (λ (c : Column). c.kind) columns) k ≡ Some column.kind = slice_get-map (λ (c : Column). c.kind) columns k ∙ ap (option_map (λ (c : Column). c.kind)) at in
    let same : slice_get (map kind_of row) k ≡ slice_get (map (λ (c : Column). c.kind) columns) k = ap (λ kinds. slice_get kinds k) typed in
    let both : Some (kind_of value) ≡ Some column.kind = sym one ∙ same ∙ other in
    cc

pub not_unfit : (r : ℕ) (columns : List Column) (row : List Value) (fault : StateFault) → HasColumnKinds columns row → IsUnfit r columns row fault → ⊥
not_unfit r columns row (Width s given) typed h = h.0 (typed_width columns row typed)
not_unfit r columns row (OtherKind s column) typed h =
    let (c, v, at, there, differ) = h.1.other in
    differ (kind_at columns row column c v typed at there)
not_unfit r columns row (UnknownRelation name) typed h = h
not_unfit r columns row (Breaks s f o other) typed h = h
not_unfit r columns row (Limit s) typed h = h
not_unfit r columns row NoMemory typed h = h

one_place : (columns : List Column) (row : List Value) (k l : ℕ) → IsFirstOtherKind columns row k → IsFirstOtherKind columns row l → k ≡ l
one_place columns row k l a b = elim (cases_lt k l) [
  | inl less ↦ let (c, v, at, there, differ) = a.other in absurd (differ (b.before k c v less at there))
  | inr from ↦ elim (cases_lt l k) [
    | inl less ↦ let (c, v, at, there, differ) = b.other in absurd (differ (a.before l c v less at there))
    | inr upto ↦ omega (arith, from, upto)
  ]
]

pub one_unfit : (r : ℕ) (columns : List Column) (row : List Value) (f g : StateFault) → IsUnfit r columns row f → IsUnfit r columns row g → f ≡ g
one_unfit r columns row (Width s given) (Width t other) a b = let rel : s ≡ t = a.1 ∙ sym b.1 in let count : given ≡ other = a.2 ∙ sym b.2 in λ i. Width (rel i) (count i)
one_unfit r columns row (Width s given) (OtherKind t column) a b = absurd (a.0 b.0)
one_unfit r columns row (OtherKind s column) (Width t given) a b = absurd (b.0 a.0)
one_unfit r columns row (OtherKind s k) (OtherKind t l) a b = let rel : s ≡ t = a.2 ∙ sym b.2 in let place : k ≡ l = one_place columns row k l a.1 b.1 in λ i. OtherKind (rel i) (place i)
one_unfit r columns row (UnknownRelation name) g a b = absurd a
one_unfit r columns row (Breaks s f o other) g a b = absurd a
one_unfit r columns row (Limit s) g a b = absurd a
one_unfit r columns row NoMemory g a b = absurd a
one_unfit r columns row (Width s given) (UnknownRelation name) a b = absurd b
one_unfit r columns row (Width s given) (Breaks t f o other) a b = absurd b
one_unfit r columns row (Width s given) (Limit t) a b = absurd b
one_unfit r columns row (Width s given) NoMemory a b = absurd b
one_unfit r columns row (OtherKind s k) (UnknownRelation name) a b = absurd b
one_unfit r columns row (OtherKind s k) (Breaks t f o other) a b = absurd b
one_unfit r columns row (OtherKind s k) (Limit t) a b = absurd b
one_unfit r columns row (OtherKind s k) NoMemory a b = absurd b
