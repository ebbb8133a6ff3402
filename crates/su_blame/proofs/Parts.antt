-- Parts of sets: the whole, a set without a number, and a set from which no number can be left out.
use Rattle.std.proofs.Common.{◌≡◌, ◌≢◌, ◌⊎◌, inl, inr, ◌+◌, ◌-◌, ◌<◌, ◌≤◌, ℕ, zero, suc, true, false, Bool, cond, if◌then◌else◌, List, [], ◌∷◌, ◌++◌, take, length, get_or, Contains, refl, sym, ap, subst, ◌∙◌, ⊎_elim, arith}
use Rattle.std.specs.Prelude.{not, nat_eq}
use Rattle.std.specs.List.{filter, range_with_len}
use Rattle.std.proofs.lemmas.Bool.{cases_lt}
use Rattle.std.proofs.lemmas.Bool.Decides.{nat_tests}
use Rattle.std.proofs.lemmas.List.{take_more}
use Rattle.std.proofs.lemmas.List.Elements.{filter-append}
use Rattle.su_base.proofs.Items.{Contains-nil, Contains-head, Contains-later, Contains-cases, Contains-filter, Contains-filter_source, Contains-or_not, Contains-range}
use Rattle.su_blame.specs.Sets.{AreRising}
use Rattle.su_blame.specs.Blame.{IsNarrow}

-- ---- rising numbers

pub rising_lower : (n a b : ℕ) (s : List ℕ) → a ≤ b → AreRising n b s → AreRising n a s
rising_lower n a b [] le rising = tt
rising_lower n a b (x ∷ s) le rising = (let low = rising.0 in omega (arith, low), rising.1, rising.2)

pub rising_within : (n from : ℕ) (s : List ℕ) (i : ℕ) → AreRising n from s → Contains s i → (from ≤ i) × (i < n)
rising_within n from [] i rising c = absurd (Contains-nil i c)
rising_within n from (x ∷ s) i rising c =
    ⊎_elim
    (λ (e : x ≡ i). (let low = rising.0 in omega (arith, low), let within = rising.1 in omega (arith, within)))
    (λ (r : Contains s i). let w = rising_within n (x + 1) s i rising.2 r in let low = rising.0 in (let a = w.0 in omega (arith, a, low), w.1))
    (Contains-cases x s i c)

-- two with the same numbers are one
pub rising_same : (n a b : ℕ) (s t : List ℕ) → AreRising n a s → AreRising n b t → ((i : ℕ) → Contains s i → Contains t i) → ((i : ℕ) → Contains t i → Contains s i) → s ≡ t
rising_same n a b [] [] rs rt to back = refl
rising_same n a b [] (y ∷ t) rs rt to back = absurd (Contains-nil y (back y (Contains-head y t)))
rising_same n a b (x ∷ s) [] rs rt to back = absurd (Contains-nil x (to x (Contains-head x s)))
rising_same n a b (x ∷ s) (y ∷ t) rs rt to back =
    let one : y ≤ x = head_least n b y t x rt (to x (Contains-head x s)) in
    let other : x ≤ y = head_least n a x s y rs (back y (Contains-head y t)) in
    let e : x ≡ y = omega arith in
    let tails = rising_same n (x + 1) (y + 1) s t rs.2 rt.2
    (λ i c. later_in n y t i (to i (Contains-later x s i c)) (let w = rising_within n (x + 1) s i rs.2 c in let l = w.0 in omega (arith, l)))
    (λ i c. later_in n x s i (back i (Contains-later y t i c)) (let w = rising_within n (y + 1) t i rt.2 c in let l = w.0 in omega (arith, l))) in
    ap (λ z. z ∷ s) e ∙ ap (λ zs. y ∷ zs) tails
  where
    head_least : (n b y : ℕ) (t : List ℕ) (x : ℕ) → AreRising n b (y ∷ t) → Contains (y ∷ t) x → y ≤ x
    head_least n b y t x rising c =
        ⊎_elim
        (λ (e : y ≡ x). let r : y ≤ x = omega arith in r)
        (λ (r : Contains t x). let w = rising_within n (y + 1) t x rising.2 r in let l = w.0 in let z : y ≤ x = omega (arith, l) in z)
        (Contains-cases y t x c)

    later_in : (n y : ℕ) (t : List ℕ) (i : ℕ) → Contains (y ∷ t) i → y < i → Contains t i
    later_in n y t i c lt =
        ⊎_elim
        (λ (e : y ≡ i). absurd (omega arith))
        (λ (r : Contains t i). r)
        (Contains-cases y t i c)

-- ---- the whole

rising_range : (n a m : ℕ) → a + m ≤ n → AreRising n a (range_with_len a m)
rising_range n a zero h = tt
rising_range n a (suc m) h = (omega arith, omega arith, rising_range n (a + 1) m (omega arith))

pub rising_whole : (n : ℕ) → AreRising n 0 (range_with_len 0 n)
rising_whole n = rising_range n 0 n (omega arith)

pub in_whole : (n : ℕ) (s : List ℕ) → AreRising n 0 s → (i : ℕ) → Contains s i → Contains (range_with_len 0 n) i
in_whole n s rising i c = Contains-range n i (rising_within n 0 s i rising c).1

-- ---- without a number

abbrev pub fewer : List ℕ → ℕ → List ℕ
fewer s i = filter (λ k. not (nat_eq k i)) s

pub fewer_more : (s : List ℕ) (n i k : ℕ) (b : Bool) (before next : List ℕ) → n < length s → k ≡ get_or s n k → before ≡ fewer (take n s) i → b ≡ not (nat_eq k i) → next ≡ before ++ (if b then k ∷ [] else []) → next ≡ fewer (take (n + 1) s) i
fewer_more s n i k b before next low is so tells e =
    let more : take (n + 1) s ≡ take n s ++ k ∷ [] = take_more s n k low ∙ ap (λ (t : ℕ). take n s ++ t ∷ []) (sym is) in
    e ∙ ap (λ (z : List ℕ). z ++ cond b (k ∷ []) []) so ∙ ap (λ (c : Bool). fewer (take n s) i ++ cond c (k ∷ []) []) tells
    ∙ sym (ap (λ (t : List ℕ). fewer t i) more ∙ filter-append (λ (j : ℕ). not (nat_eq j i)) (take n s) (k ∷ []))

pub rising_fewer : (n from : ℕ) (s : List ℕ) (i : ℕ) → AreRising n from s → AreRising n from (fewer s i)
rising_fewer n from [] i rising = tt
rising_fewer n from (x ∷ s) i rising =
    elim (not (nat_eq x i)) as (λ b. AreRising n from (cond b (x ∷ fewer s i) (fewer s i))) [
      | true ↦ (rising.0, rising.1, rising_fewer n (x + 1) s i rising.2)
      | false ↦ rising_lower n from (x + 1) (fewer s i) (let low = rising.0 in omega (arith, low)) (rising_fewer n (x + 1) s i rising.2)
    ]

pub fewer_in : (s : List ℕ) (i k : ℕ) → Contains (fewer s i) k → Contains s k × (k ≢ i)
fewer_in s i k c =
    let w = Contains-filter_source (λ (j : ℕ). not (nat_eq j i)) s k c in
    (w.0, λ e. let t = w.1 in absurd (grind (arith, nat_tests, t, e)))

pub in_fewer : (s : List ℕ) (i k : ℕ) → Contains s k → k ≢ i → Contains (fewer s i) k
in_fewer s i k c ne = Contains-filter (λ (j : ℕ). not (nat_eq j i)) s k c (grind (arith, nat_tests, ne))

-- ---- what can't be left out

-- each number of the set from i on is needed to fail
abbrev pub AreNeeded : (List ℕ → Type 0) → ℕ → List ℕ → Type 0
AreNeeded Fails i s = (k : ℕ) → Contains s k → i ≤ k → ¬ Fails (fewer s k)

-- the set fails, and of its numbers the last k of n are needed
pub record AreThinned (Fails : List ℕ → Type 0) (n k : ℕ) (s : List ℕ) : Type 0 where
  pub rising : AreRising n 0 s
  pub fails : Fails s
  pub needed : AreNeeded Fails (n - k) s

tell_number : (x y : ℕ) → (x ≡ y) ⊎ (x ≢ y)
tell_number x y =
    elim (nat_eq x y) as (λ b. nat_eq x y ≡ b → (x ≡ y) ⊎ (x ≢ y)) [
      | true ↦ λ t. inl (grind (arith, nat_tests, t))
      | false ↦ λ f. inr (λ e. absurd (grind (arith, nat_tests, f, e)))
    ] refl

module _ (Fails : List ℕ → Type 0) (n : ℕ) (grows : (s t : List ℕ) → AreRising n 0 s → AreRising n 0 t → ((i : ℕ) → Contains s i → Contains t i) → Fails s → Fails t) where
  -- of fewer numbers no more can be left out
  pub needed_fewer : (s : List ℕ) (i : ℕ) → AreRising n 0 s → AreNeeded Fails (i + 1) s → AreNeeded Fails i (fewer s i)
  needed_fewer s i rising needed k c at fails =
      let w = fewer_in s i k c in
      let more : i + 1 ≤ k = (let ne = w.1 in omega (arith, ne)) in
      needed k w.0 more
      (grows (fewer (fewer s i) k) (fewer s k) (rising_fewer n 0 (fewer s i) k (rising_fewer n 0 s i rising)) (rising_fewer n 0 s k rising)
      (λ j d. let u = fewer_in (fewer s i) k j d in in_fewer s k j (fewer_in s i j u.0).0 u.1)
      fails)

  pub needed_more : (s : List ℕ) (i : ℕ) → AreNeeded Fails (i + 1) s → (Fails (fewer s i) → ⊥) → AreNeeded Fails i s
  needed_more s i needed out k c at =
      ⊎_elim
      (λ (lt : i < k). needed k c (omega arith))
      (λ (le : k ≤ i). let e : i ≡ k = omega arith in subst (λ (j : ℕ). Fails (fewer s j) → ⊥) e out)
      (cases_lt i k)

  pub needed_none : (s : List ℕ) → AreRising n 0 s → AreNeeded Fails n s
  needed_none s rising k c at = absurd (let w = rising_within n 0 s k rising c in let l = w.1 in omega (arith, l))

  -- no failing set fails without it, nor any part of that, and so the part has each number
  all_there : (s t : List ℕ) → AreRising n 0 s → AreRising n 0 t → AreNeeded Fails 0 s → ((i : ℕ) → Contains t i → Contains s i) → Fails t → (i : ℕ) → Contains s i → Contains t i
  all_there s t rs rt needed part fails i c =
      ⊎_elim
      (λ (there : Contains t i). there)
      (λ (out : Contains t i → ⊥).
      absurd (needed i c (omega arith) (grows t (fewer s i) rt (rising_fewer n 0 s i rs) (λ j d. in_fewer s i j (part j d) (λ e. out (subst (Contains t) e d))) fails)))
      (Contains-or_not tell_number t i)

  pub part_is_whole : (s : List ℕ) → AreRising n 0 s → AreNeeded Fails 0 s → (t : List ℕ) → AreRising n 0 t → ((i : ℕ) → Contains t i → Contains s i) → Fails t → t ≡ s
  part_is_whole s rs needed t rt part fails = rising_same n 0 0 t s rt rs part (all_there s t rs rt needed part fails)

  -- ---- the last k numbers thinned

  pub thinned_start : (s : List ℕ) → s ≡ range_with_len 0 n → Fails (range_with_len 0 n) → AreThinned Fails n 0 s
  thinned_start s is fails = subst (AreThinned Fails n 0) (sym is) (record {
    rising = rising_whole n;
    fails = fails;
    needed = subst (λ (m : ℕ). AreNeeded Fails m (range_with_len 0 n)) (let e : n ≡ n - 0 = omega arith in e) (needed_none (range_with_len 0 n) (rising_whole n));
  })

  module _ (k i : ℕ) (s f : List ℕ) (low : k < n) (at : i ≡ n - 1 - k) (is : f ≡ fewer s i) (before : AreThinned Fails n k s) where
    behind : AreNeeded Fails (i + 1) s
    behind = subst (λ (m : ℕ). AreNeeded Fails m s) (let e : n - k ≡ i + 1 = omega (arith, at, low) in e) before.needed

    here : i ≡ n - (k + 1)
    here = omega (arith, at, low)

    pub thinned_fewer : Fails f → AreThinned Fails n (k + 1) f
    thinned_fewer fails = record {
      rising = subst (AreRising n 0) (sym is) (rising_fewer n 0 s i before.rising);
      fails = fails;
      needed = subst (λ (m : ℕ). AreNeeded Fails m f) here (subst (AreNeeded Fails i) (sym is) (needed_fewer s i before.rising behind));
    }

    pub thinned_same : (Fails f → ⊥) → AreThinned Fails n (k + 1) s
    thinned_same out = record {
      rising = before.rising;
      fails = before.fails;
      needed = subst (λ (m : ℕ). AreNeeded Fails m s) here (needed_more s i behind (λ fails. out (subst Fails (sym is) fails)));
    }

  pub thinned_all : (k : ℕ) (s : List ℕ) → n ≤ k → AreThinned Fails n k s → IsNarrow Fails n s
  thinned_all k s end are = record {
    set = are.rising;
    fails = are.fails;
    narrow = part_is_whole s are.rising (subst (λ (m : ℕ). AreNeeded Fails m s) (let e : n - k ≡ 0 = omega (arith, end) in e) are.needed);
  }

  pub none_fails : (Fails (range_with_len 0 n) → ⊥) → (t : List ℕ) → AreRising n 0 t → Fails t → ⊥
  none_fails out t rising fails = out (grows t (range_with_len 0 n) rising (rising_whole n) (in_whole n t rising) fails)
