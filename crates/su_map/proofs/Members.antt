-- Members of a set of numbers, which are the bits of a number.
use Rattle.std.proofs.Common.{◌≡◌, ◌≢◌, ℕ, ◌+◌, ◌-◌, ◌<◌, ◌≤◌, ◌^◌, ◌⊎◌, ◌↔◌, inl, inr, ⊎_elim, sym, ap, subst, ◌∙◌, bit_or, arith, List, length, get_or, set, get_or-set_other, get_or-set_same}
use Rattle.std.specs.Int.{bit_at, trailing_zeros, w64}
use Rattle.std.proofs.lemmas.Nat.Bits.{bit_at-trailing_zeros, bit_at-lt, bit_at_or, bit_at-zero, bit_at_ones, bit_at_ones_above}
use Rattle.std.proofs.lemmas.Bool.{cases_lt, cases_eq}

pub lowest_is : (n : ℕ) → 0 < n → n < 2 ^ 64 → (trailing_zeros w64 n < 64) × (bit_at n (trailing_zeros w64 n) ≡ 1) × ((i : ℕ) → i < trailing_zeros w64 n → bit_at n i ≡ 0)
lowest_is n pos h = bit_at-trailing_zeros w64 n pos h

pub lowest_least : (n low i : ℕ) → ((i : ℕ) → i < low → bit_at n i ≡ 0) → bit_at n i ≡ 1 → low ≤ i
lowest_least n low i none one =
    ⊎_elim
    (λ (lt : i < low). absurd (let z = none i lt in omega arith))
    (λ (le : low ≤ i). le)
    (cases_lt i low)

pub or_either : (a b j : ℕ) → (bit_at (bit_or a b) j ≡ 1) ↔ ((bit_at a j ≡ 1) ⊎ (bit_at b j ≡ 1))
or_either a b j =
    let e = bit_at_or a b j in let la = bit_at-lt a j in let lb = bit_at-lt b j in (
      λ h.
          ⊎_elim
          (λ (one : bit_at a j ≡ 1). inl one)
          (λ (other : bit_at a j ≢ 1). let one : bit_at b j ≡ 1 = omega arith in inr one)
          (cases_eq (bit_at a j) 1),
      ⊎_elim
          (λ (one : bit_at a j ≡ 1). let r : bit_at (bit_or a b) j ≡ 1 = omega arith in r)
          (λ (one : bit_at b j ≡ 1). let r : bit_at (bit_or a b) j ≡ 1 = omega arith in r),
    )

-- a number that is not 0 has a member, and one of 0 has none
pub no_member : (n j : ℕ) → n ≡ 0 → bit_at n j ≡ 1 → ⊥
no_member n j e one = let z = ap (λ m. bit_at m j) e ∙ bit_at-zero j in absurd (omega arith)

-- the members of the set of all numbers below n
pub full_member : (all n j : ℕ) → all + 1 ≡ 2 ^ n → (bit_at all j ≡ 1) ↔ (j < n)
full_member all n j e =
    let ones = ap (λ m. bit_at m j) (let o : all ≡ 2 ^ n - 1 = omega arith in o) in (
      λ one.
          ⊎_elim
          (λ (lt : j < n). lt)
          (λ (le : n ≤ j). absurd (let z = ones ∙ bit_at_ones_above n j le in omega arith))
          (cases_lt j n),
      λ lt. ones ∙ bit_at_ones n j lt,
    )

-- ---- a set that is collected number by number

pub collect_more : (A B : ℕ → Type 0) (left new i : ℕ) → A i → B i → ((j : ℕ) → j ≢ i → bit_at new j ≡ bit_at left j) → bit_at new i ≡ 1 → ((j : ℕ) → (bit_at left j ≡ 1) ↔ ((j < i) × A j × B j)) → (j : ℕ) → (bit_at new j ≡ 1) ↔ ((j < i + 1) × A j × B j)
collect_more A B left new i a b same one before j =
    ⊎_elim
    (λ (e : j ≡ i). (λ h. (omega arith, subst A (sym e) a, subst B (sym e) b), λ h. ap (bit_at new) e ∙ one))
    (λ (ne : j ≢ i). (
      λ h. let r = (before j).0 (sym (same j ne) ∙ h) in (let l = r.0 in omega arith, r.1, r.2),
      λ h. same j ne ∙ (before j).1 (let l = h.0 in omega arith, h.1, h.2),
    ))
    (cases_eq j i)

pub collect_same : (A B : ℕ → Type 0) (left new i : ℕ) → new ≡ left → (A i → B i → ⊥) → ((j : ℕ) → (bit_at left j ≡ 1) ↔ ((j < i) × A j × B j)) → (j : ℕ) → (bit_at new j ≡ 1) ↔ ((j < i + 1) × A j × B j)
collect_same A B left new i e none before j = (
  λ h. let r = (before j).0 (ap (λ m. bit_at m j) (sym e) ∙ h) in (let l = r.0 in omega arith, r.1, r.2),
  λ h.
      let l = h.0 in
      ⊎_elim
      (λ (lt : j < i). ap (λ m. bit_at m j) e ∙ (before j).1 (lt, h.1, h.2))
      (λ (le : i ≤ j). let same : j ≡ i = omega arith in absurd (none (subst A same h.1) (subst B same h.2)))
      (cases_lt j i),
)

-- nothing is collected at the start
pub collect_none : (A B : ℕ → Type 0) (j : ℕ) → (bit_at 0 j ≡ 1) ↔ ((j < 0) × A j × B j)
collect_none A B j = (λ h. absurd (let z = bit_at-zero j in omega arith), λ h. absurd (let l = h.0 in omega arith))

-- ---- rows noted at variables

pub note_kept : (list : List ℕ) (n v i : ℕ) → n < length list → ((j : ℕ) → j ≢ i → bit_at v j ≡ bit_at (get_or list n 0) j) → bit_at v i ≡ 1 → (k q : ℕ) → bit_at (get_or list k 0) q ≡ 1 → bit_at (get_or (set list n v) k 0) q ≡ 1
note_kept list n v i low same one k q h =
    ⊎_elim
    (λ (e : k ≡ n).
    let here : get_or (set list n v) k 0 ≡ v = ap (λ k. get_or (set list n v) k 0) e ∙ get_or-set_same list n v 0 low in
    ap (λ m. bit_at m q) here ∙ ⊎_elim
    (λ (f : q ≡ i). ap (bit_at v) f ∙ one)
    (λ (ne : q ≢ i). same q ne ∙ ap (λ k. bit_at (get_or list k 0) q) (sym e) ∙ h)
    (cases_eq q i))
    (λ (ne : k ≢ n). ap (λ m. bit_at m q) (get_or-set_other list n k v 0 ne) ∙ h)
    (cases_eq k n)

pub without_in : (rest new q p : ℕ) → ((j : ℕ) → j ≢ q → bit_at new j ≡ bit_at rest j) → bit_at new q ≡ 0 → bit_at new p ≡ 1 → bit_at rest p ≡ 1
without_in rest new q p same out one =
    ⊎_elim
    (λ (e : p ≡ q). absurd (let z = ap (bit_at new) e ∙ out in omega arith))
    (λ (ne : p ≢ q). sym (same p ne) ∙ one)
    (cases_eq p q)

pub with_in : (P : ℕ → Type 0) (set new q : ℕ) → ((j : ℕ) → j ≢ q → bit_at new j ≡ bit_at set j) → P q → ((p : ℕ) → bit_at set p ≡ 1 → P p) → (p : ℕ) → bit_at new p ≡ 1 → P p
with_in P set new q same here before p one =
    ⊎_elim
    (λ (e : p ≡ q). subst P (sym e) here)
    (λ (ne : p ≢ q). before p (sym (same p ne) ∙ one))
    (cases_eq p q)
