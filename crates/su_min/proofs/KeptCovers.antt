-- Each term has a kept one that covers it, whichever preorder covering is.
use Rattle.std.proofs.Common.{◌≡◌, ℕ, zero, suc, ◌<◌, ◌≤◌, ◌⊎◌, Bool, true, false, sym, ◌∙◌, subst, inl, inr, ⊎_elim, arith, true≢false}
use Rattle.std.proofs.lemmas.Bool.{cases_Bool, cases_lt}
use Rattle.su_min.specs.inside.Matrix.{IsDroppedIn, IsPreorder}

-- the first number below n that passes
record FirstBelow (p : ℕ → Bool) (n : ℕ) : Type 0 where
  at : ℕ
  below : at < n
  passes : p at ≡ true
  before : (i : ℕ) → i < at → p i ≡ false

search_below : (p : ℕ → Bool) (n : ℕ) → FirstBelow p n ⊎ ((i : ℕ) → i < n → p i ≡ false)
search_below p zero = inr (λ i h. absurd (omega arith))
search_below p (suc n) =
    ⊎_elim
    (λ (r : FirstBelow p n). inl (record { at = r.at; below = let l = r.below in omega arith; passes = r.passes; before = r.before }))
    (λ (none : (i : ℕ) → i < n → p i ≡ false).
    ⊎_elim
    (λ (one : p n ≡ true). inl (record { at = n; below = omega arith; passes = one; before = none }))
    (λ (other : p n ≡ false). inr (λ i h.
    ⊎_elim
    (λ (lt : i < n). none i lt)
    (λ (le : n ≤ i). let e : n ≡ i = omega arith in subst (λ i. p i ≡ false) e other)
    (cases_lt i n)))
    (cases_Bool (p n)))
    (search_below p n)

-- what covers i is covered by it, and no earlier one covers it
abbrev Stays : (ℕ → ℕ → Bool) → ℕ → ℕ → Type 0
Stays covers n i = (j : ℕ) → j < n → covers j i ≡ true → (covers i j ≡ true) × (i ≤ j)

stays_not_dropped : (covers : ℕ → ℕ → Bool) (n i : ℕ) → Stays covers n i → IsDroppedIn covers n i → ⊥
stays_not_dropped covers n i stays d =
    let s = stays d.other d.below d.covers_it in
    ⊎_elim
    (λ (none : covers i d.other ≡ false). true≢false (sym s.0 ∙ none))
    (λ (lt : d.other < i). absurd (let l = s.1 in omega arith))
    d.why

module _ (covers : ℕ → ℕ → Bool) (n : ℕ) (order : IsPreorder covers n) where
  -- one that covers i, and is covered by all below m that cover it turned round: it covers them
  greatest : (i : ℕ) → i < n → (m : ℕ) → m ≤ n → (k : ℕ) × (k < n) × (covers k i ≡ true) × ((j : ℕ) → j < m → covers j k ≡ true → covers k j ≡ true)
  greatest i low zero h = (i, low, order.itself i low, λ j l. absurd (omega arith))
  greatest i low (suc m) h =
      let r = greatest i low m (omega arith) in
      let k = r.0 in
      let m_low : m < n = omega arith in
      let stays : (covers m k ≡ true → covers k m ≡ true) → (k : ℕ) × (k < n) × (covers k i ≡ true) × ((j : ℕ) → j < suc m → covers j k ≡ true → covers k j ≡ true) = λ back. (
        k,
        r.1,
        r.2,
        λ j l e.
            ⊎_elim
            (λ (lt : j < m). r.3 j lt e)
            (λ (le : m ≤ j). let same : m ≡ j = omega arith in subst (λ j. covers k j ≡ true) same (back (subst (λ j. covers j k ≡ true) (sym same) e)))
            (cases_lt j m),
      ) in
      ⊎_elim
      (λ (one : covers m k ≡ true).
      ⊎_elim
      (λ (back : covers k m ≡ true). stays (λ e. back))
      (λ (other : covers k m ≡ false). (
        m,
        m_low,
        order.through m k i m_low r.1 low one r.2,
        λ j l e.
            ⊎_elim
            (λ (lt : j < m). let j_low : j < n = omega arith in order.through m k j m_low r.1 j_low one (r.3 j lt (order.through j m k j_low m_low r.1 e one)))
            (λ (le : m ≤ j). let same : m ≡ j = omega arith in subst (λ j. covers m j ≡ true) same (order.itself m m_low))
            (cases_lt j m),
      ))
      (cases_Bool (covers k m)))
      (λ (other : covers m k ≡ false). stays (λ e. absurd (true≢false (sym e ∙ other))))
      (cases_Bool (covers m k))

  -- each has one that is not dropped and covers it
  pub has_cover : (i : ℕ) → i < n → (k : ℕ) × (k < n) × (covers k i ≡ true) × (IsDroppedIn covers n k → ⊥)
  has_cover i low =
      let r = greatest i low n (omega arith) in
      let top = r.0 in
      ⊎_elim
      (λ (f : FirstBelow (λ j. covers j top) n).
      let k = f.at in
      let back = r.3 k f.below f.passes in
      let stays : Stays covers n k = λ j l e.
      let over = order.through j k top l f.below r.1 e f.passes in (
        order.through k top j f.below r.1 l f.passes (r.3 j l over),
        ⊎_elim
            (λ (lt : j < k). absurd (true≢false (sym over ∙ f.before j lt)))
            (λ (le : k ≤ j). le)
            (cases_lt j k),
      ) in
      (k, f.below, order.through k top i f.below r.1 low f.passes r.2, stays_not_dropped covers n k stays))
      (λ (none : (j : ℕ) → j < n → covers j top ≡ false). absurd (true≢false (sym (order.itself top r.1) ∙ none top r.1)))
      (search_below (λ j. covers j top) n)
