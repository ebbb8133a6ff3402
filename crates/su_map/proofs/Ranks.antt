-- The place of a row number among the members of a set.
use Rattle.std.proofs.Common.{◌≡◌, ◌≢◌, ℕ, zero, suc, ◌+◌, ◌<◌, ◌≤◌, List, [], ◌∷◌, ◌++◌, map, length, get_or, refl, sym, ap, subst, ◌∙◌, ⊎_elim, arith, append-nil}
use Rattle.std.proofs.Math.Seq.{get_or-append_seam}
use Rattle.std.specs.Int.{bit_at}
use Rattle.std.proofs.lemmas.Bool.{cases_lt, cases_eq}
use Rattle.std.proofs.lemmas.List.{length-append, get_or_append_left, length-map, get_or-map, get_or_default, same_lists}
use Rattle.std.proofs.lemmas.Nat.Bits.{bit_at-lt}
use Rattle.su_tableau.specs.Parts.{keep_if}
use Rattle.su_map.specs.Lists.{numbers_of}

-- how many members are below i
abbrev pub rank : ℕ → ℕ → ℕ
rank m i = length (numbers_of m i)

keep_if-is : (b n : ℕ) → b ≡ 1 → keep_if b n [] ≡ n ∷ []
keep_if-is b n e = subst (λ b. keep_if b n [] ≡ n ∷ []) (sym e) refl

pub keep_if-none : (b n : ℕ) → b ≡ 0 → keep_if b n [] ≡ []
keep_if-none b n e = subst (λ b. keep_if b n [] ≡ []) (sym e) refl

not_one : (m n : ℕ) → bit_at m n ≢ 1 → bit_at m n ≡ 0
not_one m n h = let l = bit_at-lt m n in omega arith

pub numbers-more : (m n : ℕ) → bit_at m n ≡ 1 → numbers_of m (suc n) ≡ numbers_of m n ++ n ∷ []
numbers-more m n e = ap (λ xs. numbers_of m n ++ xs) (keep_if-is (bit_at m n) n e)

pub numbers-none : (m n : ℕ) → bit_at m n ≢ 1 → numbers_of m (suc n) ≡ numbers_of m n
numbers-none m n none = ap (λ xs. numbers_of m n ++ xs) (keep_if-none (bit_at m n) n (not_one m n none)) ∙ append-nil (numbers_of m n)

numbers-length : (m n : ℕ) → bit_at m n ≡ 1 → length (numbers_of m (suc n)) ≡ length (numbers_of m n) + 1
numbers-length m n e = ap length (numbers-more m n e) ∙ length-append (numbers_of m n) (n ∷ [])

-- a number below is among the first
pub numbers-early : (m n p d : ℕ) → p < length (numbers_of m n) → get_or (numbers_of m (suc n)) p d ≡ get_or (numbers_of m n) p d
numbers-early m n p d h = get_or_append_left (numbers_of m n) (keep_if (bit_at m n) n []) d p h

pub rank_up : (m n : ℕ) → length (numbers_of m n) ≤ length (numbers_of m (suc n))
rank_up m n = let e = length-append (numbers_of m n) (keep_if (bit_at m n) n []) in omega arith

pub rank_in : (m n i : ℕ) → i < n → bit_at m i ≡ 1 → rank m i < length (numbers_of m n)
rank_in m zero i h b = absurd (omega arith)
rank_in m (suc n) i h b =
    ⊎_elim
    (λ (lt : i < n). let r = rank_in m n i lt b in let u = rank_up m n in omega arith)
    (λ (le : n ≤ i). let e : i ≡ n = omega arith in let l = numbers-length m n (ap (bit_at m) (sym e) ∙ b) in let s = ap (λ i. rank m i) e in omega arith)
    (cases_lt i n)

pub rank_at : (m n i : ℕ) → i < n → bit_at m i ≡ 1 → get_or (numbers_of m n) (rank m i) 0 ≡ i
rank_at m zero i h b = absurd (omega arith)
rank_at m (suc n) i h b =
    ⊎_elim
    (λ (lt : i < n). numbers-early m n (rank m i) 0 (rank_in m n i lt b) ∙ rank_at m n i lt b)
    (λ (le : n ≤ i).
    let e : i ≡ n = omega arith in
    let here : get_or (numbers_of m n ++ n ∷ []) (length (numbers_of m n)) 0 ≡ n = get_or-append_seam (numbers_of m n) n [] 0 in
    ap (λ i. get_or (numbers_of m (suc n)) (rank m i) 0) e ∙ ap (λ xs. get_or xs (rank m n) 0) (numbers-more m n (ap (bit_at m) (sym e) ∙ b)) ∙ here ∙ sym e)
    (cases_lt i n)

-- the number at a place
pub record IsRanked (m n p : ℕ) : Type 0 where
  pub number : ℕ
  pub is : get_or (numbers_of m n) p 0 ≡ number
  pub below : number < n
  pub member : bit_at m number ≡ 1
  pub ranked : rank m number ≡ p

pub ranked_at : (m n p : ℕ) → p < length (numbers_of m n) → IsRanked m n p
ranked_at m zero p h = absurd (omega arith)
ranked_at m (suc n) p h =
    ⊎_elim
    (λ (lt : p < length (numbers_of m n)).
    let r = ranked_at m n p lt in
    record { number = r.number; is = numbers-early m n p 0 lt ∙ r.is; below = let l = r.below in omega arith; member = r.member; ranked = r.ranked })
    (λ (le : length (numbers_of m n) ≤ p).
    ⊎_elim
    (λ (one : bit_at m n ≡ 1).
    let l = numbers-length m n one in
    let e : length (numbers_of m n) ≡ p = omega arith in
    record {
      number = n;
      is = ap (λ xs. get_or xs p 0) (numbers-more m n one) ∙ ap (λ p. get_or (numbers_of m n ++ n ∷ []) p 0) (sym e) ∙ get_or-append_seam (numbers_of m n) n [] 0;
      below = omega arith;
      member = one;
      ranked = e;
    })
    (λ (other : bit_at m n ≢ 1).
    let e = ap length (ap (λ xs. numbers_of m n ++ xs) (keep_if-none (bit_at m n) n (not_one m n other))) ∙ length-append (numbers_of m n) [] in
    absurd (omega arith))
    (cases_eq (bit_at m n) 1))
    (cases_lt p (length (numbers_of m n)))

-- the ranks are in the numbers' order
pub rank_mono : (m i n : ℕ) → i ≤ n → rank m i ≤ rank m n
rank_mono m i zero h = let e : i ≡ 0 = omega arith in let s = ap (λ i. rank m i) e in omega arith
rank_mono m i (suc n) h =
    ⊎_elim
    (λ (lt : i < suc n). let r = rank_mono m i n (omega arith) in let u = rank_up m n in omega arith)
    (λ (le : suc n ≤ i). let e : i ≡ suc n = omega arith in let s = ap (λ i. rank m i) e in omega arith)
    (cases_lt i (suc n))

pub rank_less : (m i n : ℕ) → i < n → bit_at m i ≡ 1 → rank m i < rank m n
rank_less m i n h b = rank_in m n i h b

-- ---- a choice as a list

-- the choice that a list makes
abbrev pub choice_by : ℕ → List ℕ → ℕ → ℕ
choice_by m list i = get_or list (rank m i) 0

pub map_at : (m n : ℕ) (a : ℕ → ℕ) (i : ℕ) → i < n → bit_at m i ≡ 1 → get_or (map a (numbers_of m n)) (rank m i) 0 ≡ a i
map_at m n a i h b = get_or-map a (numbers_of m n) (rank m i) 0 0 (rank_in m n i h b) ∙ ap a (rank_at m n i h b)

pub list_by : (m n : ℕ) (list : List ℕ) → length list ≡ length (numbers_of m n) → map (choice_by m list) (numbers_of m n) ≡ list
list_by m n list len =
    let l = length-map (numbers_of m n) (choice_by m list) in
    same_lists (map (choice_by m list) (numbers_of m n)) list (l ∙ sym len) (λ p d h.
    let low : p < length (numbers_of m n) = omega arith in
    let r = ranked_at m n p low in
    get_or-map (choice_by m list) (numbers_of m n) p 0 d low ∙ ap (choice_by m list) r.is ∙ ap (λ p. get_or list p 0) r.ranked ∙ get_or_default list p 0 d (omega arith))

pub map_same : (m n : ℕ) (a b : ℕ → ℕ) → ((i : ℕ) → i < n → bit_at m i ≡ 1 → a i ≡ b i) → map a (numbers_of m n) ≡ map b (numbers_of m n)
map_same m n a b f =
    let la = length-map (numbers_of m n) a in let lb = length-map (numbers_of m n) b in
    same_lists (map a (numbers_of m n)) (map b (numbers_of m n)) (la ∙ sym lb) (λ p d h.
    let low : p < length (numbers_of m n) = omega arith in
    let r = ranked_at m n p low in
    get_or-map a (numbers_of m n) p 0 d low ∙ ap a r.is ∙ f r.number r.below r.member ∙ ap b (sym r.is) ∙ sym (get_or-map b (numbers_of m n) p 0 d low))

-- ---- a set without one of its members

pub numbers_same : (a b n : ℕ) → ((i : ℕ) → i < n → bit_at a i ≡ bit_at b i) → numbers_of a n ≡ numbers_of b n
numbers_same a b zero h = refl
numbers_same a b (suc n) h =
    let i = numbers_same a b n (λ i l. h i (omega arith)) in
    let e = h n (omega arith) in
    ap (λ xs. xs ++ keep_if (bit_at a n) n []) i ∙ ap (λ c. numbers_of b n ++ keep_if c n []) e

numbers_empty : (m n : ℕ) → ((i : ℕ) → i < n → bit_at m i ≡ 0) → numbers_of m n ≡ []
numbers_empty m zero h = refl
numbers_empty m (suc n) h =
    ap (λ xs. xs ++ keep_if (bit_at m n) n []) (numbers_empty m n (λ i l. h i (omega arith))) ∙ ap (λ xs. [] ++ xs) (keep_if-none (bit_at m n) n (h n (omega arith)))

length-keep_if : (b n : ℕ) → b < 2 → length (keep_if b n []) ≡ b
length-keep_if zero n h = refl
length-keep_if (suc b) n h = let e : b ≡ 0 = omega arith in omega arith

pub numbers_step : (m n : ℕ) → length (numbers_of m (suc n)) ≡ length (numbers_of m n) + bit_at m n
numbers_step m n =
    let e = length-append (numbers_of m n) (keep_if (bit_at m n) n []) in
    let l = length-keep_if (bit_at m n) n (bit_at-lt m n) in
    omega arith

pub numbers_without : (m new r n : ℕ) → r < n → bit_at m r ≡ 1 → bit_at new r ≡ 0 → ((i : ℕ) → i ≢ r → bit_at new i ≡ bit_at m i) → length (numbers_of new n) + 1 ≡ length (numbers_of m n)
numbers_without m new r zero h one out same = absurd (omega arith)
numbers_without m new r (suc n) h one out same =
    let a = numbers_step m n in
    let b = numbers_step new n in
    ⊎_elim
    (λ (lt : r < n). let i = numbers_without m new r n lt one out same in let e = same n (λ e. absurd (omega arith)) in omega arith)
    (λ (le : n ≤ r).
    let e : r ≡ n = omega arith in
    let x = ap (bit_at m) e in let y = ap (bit_at new) e in
    let i = ap length (numbers_same new m n (λ i l. same i (λ f. absurd (omega arith)))) in
    omega arith)
    (cases_lt r n)

-- where it is the first, the others follow it
pub numbers_first : (m new r n : ℕ) → r < n → bit_at m r ≡ 1 → bit_at new r ≡ 0 → ((i : ℕ) → i ≢ r → bit_at new i ≡ bit_at m i) → ((i : ℕ) → bit_at m i ≡ 1 → r ≤ i) → numbers_of m n ≡ r ∷ numbers_of new n
numbers_first m new r zero h one out same least = absurd (omega arith)
numbers_first m new r (suc n) h one out same least =
    let none = λ (i : ℕ) (l : i < r). let b = bit_at-lt m i in ⊎_elim (λ (o : bit_at m i ≡ 1). absurd (let x = least i o in omega arith)) (λ (z : bit_at m i ≢ 1). not_one m i z) (cases_eq (bit_at m i) 1) in
    ⊎_elim
    (λ (lt : r < n).
    ap (λ xs. xs ++ keep_if (bit_at m n) n []) (numbers_first m new r n lt one out same least)
    ∙ ap (λ c. (r ∷ numbers_of new n) ++ keep_if c n []) (sym (same n (λ e. absurd (omega arith)))))
    (λ (le : n ≤ r).
    let e : r ≡ n = omega arith in
    let empty : numbers_of m n ≡ [] = numbers_empty m n (λ i l. none i (omega arith)) in
    let empty' : numbers_of new n ≡ [] = numbers_empty new n (λ i l. same i (λ f. absurd (omega arith)) ∙ none i (omega arith)) in
    let a : numbers_of m (suc n) ≡ n ∷ [] = ap (λ xs. xs ++ keep_if (bit_at m n) n []) empty ∙ keep_if-is (bit_at m n) n (ap (bit_at m) (sym e) ∙ one) in
    let b : numbers_of new (suc n) ≡ [] = ap (λ xs. xs ++ keep_if (bit_at new n) n []) empty' ∙ keep_if-none (bit_at new n) n (ap (bit_at new) (sym e) ∙ out) in
    a ∙ ap (λ k. k ∷ []) (sym e) ∙ ap (λ xs. r ∷ xs) (sym b))
    (cases_lt r n)
