-- Keys of marked rows, one row after another.
use Rattle.std.proofs.Common.{◌≡◌, ◌⊎◌, ◌↔◌, ◌+◌, ◌<◌, ℕ, Bool, true, false, IsTrue, List, [], ◌∷◌, length, get_or, set, Contains, refl, sym, ap, subst, ◌∙◌, inl, inr, ⊎_elim, true≢false, arith}
use Rattle.std.proofs.lemmas.Bool.{cases_eq}
use Rattle.std.proofs.lemmas.List.{get_or-set_other, get_or-set_same}
use Rattle.su_reduce.specs.Sheets.{IsMarkedKey, pick}
use Rattle.su_reduce.specs.inside.Partnered.{AreCodes, AreKeys}

pub no_keys : (rows : List (List ℕ)) (marks : List Bool) (places : List ℕ) → AreKeys rows marks places 0 []
no_keys rows marks places k = (λ h. absurd (let l = h.1 in omega arith), λ one. absurd (let l = one.below in omega arith))

module _ (rows : List (List ℕ)) (marks : List Bool) (places : List ℕ) (n : ℕ) (old : List (List ℕ)) (before : AreKeys rows marks places n old) where
  more : (k : List ℕ) → IsMarkedKey rows marks places n k → IsMarkedKey rows marks places (n + 1) k
  more k one = let l = one.below in record { place = one.place; below = omega (arith, l); is_marked = one.is_marked; is = one.is }

  pub keys_same : get_or marks n false ≡ false → AreKeys rows marks places (n + 1) old
  keys_same none k = (
    λ h. more k ((before k).0 h),
    λ one.
        ⊎_elim
        (λ (e : one.place ≡ n). absurd (true≢false (sym one.is_marked ∙ ap (λ p. get_or marks p false) e ∙ none)))
        (λ (other : one.place ≡ n → ⊥). let l = one.below in (before k).1 (record { place = one.place; below = omega (arith, l, other); is_marked = one.is_marked; is = one.is }))
        (cases_eq one.place n),
  )

  pub keys_more : (new : List (List ℕ)) (x : List ℕ) → IsTrue (get_or marks n false) → x ≡ pick places (get_or rows n []) → ((r : List ℕ) → Contains old r → Contains new r) → Contains new x → ((r : List ℕ) → Contains new r → Contains old r ⊎ (x ≡ r)) → AreKeys rows marks places (n + 1) new
  keys_more new x marked is kept had only k = (
    λ h.
        ⊎_elim
        (λ (a : Contains old k). more k ((before k).0 a))
        (λ (e : x ≡ k). record { place = n; below = omega arith; is_marked = marked; is = sym is ∙ e })
        (only k h),
    λ one.
        ⊎_elim
        (λ (e : one.place ≡ n). subst (λ (r : List ℕ). Contains new r) (is ∙ ap (λ p. pick places (get_or rows p [])) (sym e) ∙ one.is) had)
        (λ (other : one.place ≡ n → ⊥). let l = one.below in kept k ((before k).1 (record { place = one.place; below = omega (arith, l, other); is_marked = one.is_marked; is = one.is })))
        (cases_eq one.place n),
  )

-- ---- codes in place of keys

-- a row more
marked_next : (rows : List (List ℕ)) (marks : List Bool) (places : List ℕ) (n : ℕ) (k : List ℕ) → IsMarkedKey rows marks places (n + 1) k ↔ (IsMarkedKey rows marks places n k ⊎ (IsTrue (get_or marks n false) × (pick places (get_or rows n []) ≡ k)))
marked_next rows marks places n k = (
  λ one.
      let l = one.below in
      ⊎_elim
      (λ (e : one.place ≡ n). inr (ap (λ p. get_or marks p false) (sym e) ∙ one.is_marked, ap (λ p. pick places (get_or rows p [])) (sym e) ∙ one.is))
      (λ (other : one.place ≡ n → ⊥). inl (record { place = one.place; below = omega (arith, l, other); is_marked = one.is_marked; is = one.is }))
      (cases_eq one.place n),
  λ either.
      ⊎_elim
      (λ (one : IsMarkedKey rows marks places n k). let l = one.below in record { place = one.place; below = omega (arith, l); is_marked = one.is_marked; is = one.is })
      (λ (here : IsTrue (get_or marks n false) × (pick places (get_or rows n []) ≡ k)). record { place = n; below = omega arith; is_marked = here.0; is = here.1 })
      either,
)

pub no_codes : (rows : List (List ℕ)) (marks : List Bool) (places : List ℕ) (codes : List Bool) → ((code : ℕ) → get_or codes code false ≡ false) → AreCodes rows marks places 0 codes
no_codes rows marks places codes blank code = (λ t. absurd (true≢false (sym t ∙ blank code)), λ one. absurd (let l = one.below in omega arith))

same_code : (x code : ℕ) → x ∷ [] ≡ code ∷ [] → x ≡ code
same_code x code e = cc

module _ (rows : List (List ℕ)) (marks : List Bool) (places : List ℕ) (n : ℕ) (old : List Bool) (before : AreCodes rows marks places n old) where
  pub codes_same : get_or marks n false ≡ false → AreCodes rows marks places (n + 1) old
  codes_same none code = (
    λ t. (marked_next rows marks places n (code ∷ [])).1 (inl ((before code).0 t)),
    λ one.
        ⊎_elim
        (λ (x : IsMarkedKey rows marks places n (code ∷ [])). (before code).1 x)
        (λ (here : IsTrue (get_or marks n false) × (pick places (get_or rows n []) ≡ code ∷ [])). absurd (true≢false (sym here.0 ∙ none)))
        ((marked_next rows marks places n (code ∷ [])).0 one),
  )

  pub codes_more : (x : ℕ) → IsTrue (get_or marks n false) → pick places (get_or rows n []) ≡ x ∷ [] → x < length old → AreCodes rows marks places (n + 1) (set old x true)
  codes_more x marked is low code = (
    λ t.
        ⊎_elim
        (λ (e : x ≡ code). (marked_next rows marks places n (code ∷ [])).1 (inr (marked, is ∙ ap (λ y. y ∷ []) e)))
        (λ (other : x ≡ code → ⊥). (marked_next rows marks places n (code ∷ [])).1 (inl ((before code).0 (sym (get_or-set_other old x code true false (λ e. other (sym e))) ∙ t))))
        (cases_eq x code),
    λ one.
        ⊎_elim
        (λ (y : IsMarkedKey rows marks places n (code ∷ [])).
        ⊎_elim
        (λ (e : x ≡ code). subst (λ c. IsTrue (get_or (set old x true) c false)) e (get_or-set_same old x true false low))
        (λ (other : x ≡ code → ⊥). get_or-set_other old x code true false (λ e. other (sym e)) ∙ (before code).1 y)
        (cases_eq x code))
        (λ (here : IsTrue (get_or marks n false) × (pick places (get_or rows n []) ≡ code ∷ [])).
        let e = same_code x code (sym is ∙ here.1) in
        subst (λ c. IsTrue (get_or (set old x true) c false)) e (get_or-set_same old x true false low))
        ((marked_next rows marks places n (code ∷ [])).0 one),
  )

-- a key of one code
one_cell : (xs : List ℕ) → length xs ≡ 1 → xs ≡ get_or xs 0 0 ∷ []
one_cell [] n = absurd (omega (arith, n))
one_cell (x ∷ []) n = refl
one_cell (x ∷ y ∷ xs) n = absurd (omega (arith, n))

pub picked_one : (places row : List ℕ) → length places ≡ 1 → pick places row ≡ get_or row (get_or places 0 0) 0 ∷ []
picked_one places row n = ap (λ ps. pick ps row) (one_cell places n)

pub has_one : (codes : List Bool) (key : List ℕ) (r : Bool) → length key ≡ 1 → r ≡ get_or codes (get_or key 0 0) false → IsTrue r ↔ ((code : ℕ) × (key ≡ code ∷ []) × IsTrue (get_or codes code false))
has_one codes key r n is = (
  λ t. (get_or key 0 0, one_cell key n, sym is ∙ t),
  λ h. is ∙ (ap (λ k. get_or codes (get_or k 0 0) false) h.1 ∙ h.2),
)

pub codes_are_keys : (rows : List (List ℕ)) (marks : List Bool) (places : List ℕ) (n : ℕ) (codes : List Bool) → length places ≡ 1 → AreCodes rows marks places n codes → (key : List ℕ) → ((code : ℕ) × (key ≡ code ∷ []) × IsTrue (get_or codes code false)) ↔ IsMarkedKey rows marks places n key
codes_are_keys rows marks places n codes one are key = (
  λ h. subst (IsMarkedKey rows marks places n) (sym h.1) ((are h.0).0 h.2),
  λ k.
      let is : key ≡ get_or (get_or rows k.place []) (get_or places 0 0) 0 ∷ [] = sym k.is ∙ picked_one places (get_or rows k.place []) one in
      (get_or (get_or rows k.place []) (get_or places 0 0) 0, is, (are (get_or (get_or rows k.place []) (get_or places 0 0) 0)).1 (subst (IsMarkedKey rows marks places n) is k)),
)
