-- A row is put into its bucket.
use Rattle.std.proofs.Common.{◌≡◌, ◌≢◌, ℕ, zero, suc, ◌<◌, ◌≤◌, ◌%◌, ◌++◌, Bool, true, false, List, [], ◌∷◌, length, get_or, set, take, refl, sym, ap, subst, ◌∙◌, ⊎_elim, arith, length-append}
use Rattle.std.specs.Prelude.{cond, nat_eq}
use Rattle.std.proofs.lemmas.Bool.{cases_lt, cases_eq}
use Rattle.std.proofs.lemmas.Bool.Decides.{nat_tests}
use Rattle.std.proofs.lemmas.List.{get_or-set_same, get_or-set_other, length-set, length-take-le, get_or-take, get_or_append_left, get_or_default, get_or_push}
use Rattle.su_base.specs.Lists.{AllDiffer}
use Rattle.su_reduce.specs.Sheets.{pick}
use Rattle.su_reduce.specs.Chains.{last, hash_of, in_bucket}
use Rattle.su_reduce.specs.inside.Hashed.{IsHashed}

-- tests that are the same below n have the same last number
last_same : (p q : ℕ → Bool) (n : ℕ) → ((j : ℕ) → j < n → p j ≡ q j) → last p n ≡ last q n
last_same p q zero h = refl
last_same p q (suc n) h =
    let e = h n (omega arith) in
    let i = last_same p q n (λ j l. h j (omega arith)) in
    ap (λ b. cond b (suc n) (last p n)) e ∙ ap (λ m. cond (q n) (suc n) m) i

module _ (w : ℕ) (rows : List (List ℕ)) (places heads next row : List ℕ) (h : ℕ) (old : IsHashed (record { width = w; rows = rows }) places heads next) (is : h ≡ hash_of (pick places row) % length heads) where
  abbrev n : ℕ
  n = length rows

  abbrev more : List (List ℕ)
  more = rows ++ row ∷ []

  test_before : (k j : ℕ) → j < n → in_bucket more places (length heads) k j ≡ in_bucket rows places (length heads) k j
  test_before k j l = ap (λ r. nat_eq (hash_of (pick places r) % length heads) k) (get_or_append_left rows (row ∷ []) [] j l)

  test_here : (k : ℕ) → in_bucket more places (length heads) k n ≡ nat_eq h k
  test_here k = ap (λ r. nat_eq (hash_of (pick places r) % length heads) k) (get_or_push rows row [] (length rows) refl) ∙ ap (λ m. nat_eq m k) (sym is)

  last_before : (k j : ℕ) → j ≤ n → last (in_bucket more places (length heads) k) j ≡ last (in_bucket rows places (length heads) k) j
  last_before k j l = last_same (in_bucket more places (length heads) k) (in_bucket rows places (length heads) k) j (λ i m. test_before k i (omega arith))

  -- the numbers of the chains, with that of the row's bucket put last
  abbrev after : List ℕ
  after = take n next ++ get_or heads h 0 ∷ []

  low : h < length heads
  low = let s = old.some in omega (arith, is)

  len_after : length after ≡ suc n
  len_after = let a = length-take-le n next old.room in let b = length-append (take n next) (get_or heads h 0 ∷ []) in omega arith

  next_before : (j : ℕ) → j < n → get_or after j 0 ≡ get_or next j 0
  next_before j l = let a = length-take-le n next old.room in get_or_append_left (take n next) (get_or heads h 0 ∷ []) 0 j (omega arith) ∙ get_or-take n next j 0 l

  next_here : get_or after n 0 ≡ get_or heads h 0
  next_here = let a = length-take-le n next old.room in ap (λ m. get_or after m 0) (sym a) ∙ get_or_push (take n next) (get_or heads h 0) 0 (length (take n next)) refl

  new_heads : (k : ℕ) → k < length heads → get_or (set heads h (suc n)) k 0 ≡ last (in_bucket more places (length heads) k) (suc n)
  new_heads k l =
      ⊎_elim
      (λ (e : h ≡ k).
      let t : in_bucket more places (length heads) k n ≡ true = test_here k ∙ grind (arith, nat_tests, e) in
      let a : get_or (set heads h (suc n)) k 0 ≡ suc n = ap (λ k. get_or (set heads h (suc n)) k 0) (sym e) ∙ get_or-set_same heads h (suc n) 0 low in
      a ∙ sym (ap (λ b. cond b (suc n) (last (in_bucket more places (length heads) k) n)) t))
      (λ (ne : h ≡ k → ⊥).
      let t : in_bucket more places (length heads) k n ≡ false = test_here k ∙ grind (arith, nat_tests, ne) in
      let a : get_or (set heads h (suc n)) k 0 ≡ get_or heads k 0 = get_or-set_other heads h k (suc n) 0 (λ e. ne (sym e)) in
      a ∙ old.each_head k l ∙ sym (last_before k n (omega arith)) ∙ sym (ap (λ b. cond b (suc n) (last (in_bucket more places (length heads) k) n)) t))
      (cases_eq h k)

  new_chain : (k j : ℕ) → j < suc n → in_bucket more places (length heads) k j ≡ true → get_or after j 0 ≡ last (in_bucket more places (length heads) k) j
  new_chain k j l t =
      ⊎_elim
      (λ (b : j < n). next_before j b ∙ old.chains k j b (sym (test_before k j b) ∙ t) ∙ sym (last_before k j (omega arith)))
      (λ (b : n ≤ j).
      let e : j ≡ n = omega arith in
      let s : nat_eq h k ≡ true = sym (test_here k) ∙ subst (λ j. in_bucket more places (length heads) k j ≡ true) e t in
      let same : h ≡ k = grind (arith, nat_tests, s) in
      ap (λ j. get_or after j 0) e ∙ next_here ∙ ap (λ h. get_or heads h 0) same ∙ old.each_head k (subst (λ h. h < length heads) same low) ∙ sym (last_before k n (omega arith)) ∙ ap (λ j. last (in_bucket more places (length heads) k) j) (sym e))
      (cases_lt j n)

  new_differ : ((j : ℕ) → j < n → get_or rows j [] ≢ row) → AllDiffer more
  new_differ none i j d l m =
      let len = length-append rows (row ∷ []) in
      let a : i < n = omega arith in
      ⊎_elim
      (λ (b : j < n). λ (e : get_or more i d ≡ get_or more j d). old.differ i j d l b (sym (get_or_append_left rows (row ∷ []) d i a) ∙ e ∙ get_or_append_left rows (row ∷ []) d j b))
      (λ (b : n ≤ j). λ (e : get_or more i d ≡ get_or more j d).
      let same : j ≡ n = omega arith in
      none i a (get_or_default rows i [] d a ∙ sym (get_or_append_left rows (row ∷ []) d i a) ∙ e ∙ ap (λ j. get_or more j d) same ∙ get_or_push rows row d (length rows) refl))
      (cases_lt j n)

  pub hashed_more : ((j : ℕ) → j < n → get_or rows j [] ≢ row) → IsHashed (record { width = w; rows = more }) places (set heads h (suc n)) after
  hashed_more none =
      let len = length-set heads h (suc n) in
      let more_rows = length-append rows (row ∷ []) in
      let e : length more ≡ suc n = omega arith in
      record {
        below = old.below;
        some = let s = old.some in omega arith;
        room = let a = len_after in omega arith;
        each_head = λ k l.
            subst (λ m. get_or (set heads h (suc n)) k 0 ≡ last (in_bucket more places m k) (length more)) (sym len)
            (subst (λ z. get_or (set heads h (suc n)) k 0 ≡ last (in_bucket more places (length heads) k) z) (sym e) (new_heads k (omega arith)));
        chains = λ k j l t. subst (λ m. get_or after j 0 ≡ last (in_bucket more places m k) j) (sym len) (new_chain k j (omega arith) (subst (λ m. in_bucket more places m k j ≡ true) len t));
        differ = new_differ none;
      }

  -- the row that was to be put in is left out again
  pub hashed_less : IsHashed (record { width = w; rows = rows }) places heads after
  hashed_less = record {
    below = old.below;
    some = old.some;
    room = let a = len_after in omega arith;
    each_head = old.each_head;
    chains = λ k j l t. next_before j l ∙ old.chains k j l t;
    differ = old.differ;
  }
