-- All subsets of some numbers, one number more: each subset so far, and behind them each with that number.
use Rattle.std.proofs.Common.{ℕ, zero, suc, ◌≡◌, ◌+◌, ◌-◌, ◌<◌, ◌≤◌, IsTrue, List, true, false, inl, inr, [], ◌∷◌, ◌++◌, map, take, length, get_or, Contains, refl, sym, ap, subst, ◌∙◌, ⊎_elim, arith, append-nil, append_assoc}
use Rattle.std.specs.Cmp.{nat_cmp_total}
use Rattle.std.specs.Ordering.{nat_cmp}
use Rattle.std.specs.FinSet.{FinSet, contains, is_subset, insert, empty, members, contains-insert}
use Rattle.std.proofs.lemmas.Bool.{cases_eq, cases_lt, false≢true, false_from_ne_true}
use Rattle.std.proofs.lemmas.Bool.Decides.{nat_tests}
use Rattle.std.proofs.lemmas.List.{length-append, length-map, length-take, map-append, get_or_append_left, get_or-append-add, get_or-map, get_or-take, get_or_default, take_more, take_all}
use Rattle.std.proofs.lemmas.List.Elements.{Contains-append_left, Contains-append_right, Contains-append_cases, Contains-push, Contains-push_cases, Contains-get_or}
use Rattle.su_base.specs.Lists.{AllDiffer, IsAscending}
use Rattle.su_base.proofs.Items.{Contains-map, Contains-map_source, Contains-nil, Contains-one, AllDiffer-push}
use Rattle.su_base.proofs.Subsets.{subset_at, subset_by, subset_antisymm}
use Rattle.su_advise.proofs.Keyed.{less, less_misses, less_within, put_back}
use Rattle.su_advise.specs.inside.Subsets.{with_each, AreSubsetsOf}

-- each member of s is one of the numbers
abbrev pub IsOf : List ℕ → FinSet nat_cmp → Type 0
IsOf numbers s = (a : ℕ) → IsTrue (contains s a) → Contains numbers a

pub subsets_start : (sets : List (FinSet nat_cmp)) → sets ≡ empty ∷ [] → AreSubsetsOf [] sets
subsets_start sets e = subst (AreSubsetsOf []) (sym e) (record {
  differ = λ i j d lt within. absurd (omega arith);
  parts_first = λ i j d low high part. omega arith;
  all = λ s. (
    λ has a one. absurd (let is : empty ≡ s = Contains-one empty s has in let there : IsTrue (contains empty a) = subst (λ (t : FinSet nat_cmp). IsTrue (contains t a)) (sym is) one in grind (arith, members, there)),
    λ of. let is : empty ≡ s = subset_antisymm _ _ (subset_by _ _ (λ q one. grind (arith, members, one))) (subset_by _ _ (λ q one. absurd (Contains-nil q (of q one)))) in (0, omega arith, is),
  );
})

-- sets are one where they are one with a number that neither has
pub insert_one : (s t : FinSet nat_cmp) (a : ℕ) → contains s a ≡ false → contains t a ≡ false → insert s a ≡ insert t a → s ≡ t
insert_one s t a no_s no_t e = subset_antisymm _ _
    (subset_by _ _ (λ q one. let there = ap (λ (u : FinSet nat_cmp). contains u q) e in elim (cases_eq q a) [
      | inl is ↦ absurd (false≢true (sym no_s ∙ subst (λ (k : ℕ). contains s k ≡ true) is one))
      | inr other ↦ grind (arith, nat_tests, members, one, other, there)
    ]))
    (subset_by _ _ (λ q one. let there = ap (λ (u : FinSet nat_cmp). contains u q) e in elim (cases_eq q a) [
      | inl is ↦ absurd (false≢true (sym no_t ∙ subst (λ (k : ℕ). contains t k ≡ true) is one))
      | inr other ↦ grind (arith, nat_tests, members, one, other, there)
    ]))

module _ (numbers : List ℕ) (a : ℕ) (fresh : Contains numbers a → ⊥) (sets : List (FinSet nat_cmp)) (before : AreSubsetsOf numbers sets) where
  -- no set so far has the number
  lacks : (s : FinSet nat_cmp) → Contains sets s → contains s a ≡ false
  lacks s has = false_from_ne_true (contains s a) (λ one. fresh ((before.all s).0 has a one))

  abbrev images : List (FinSet nat_cmp)
  images = map (λ s. insert s a) sets

  has_it : (t : FinSet nat_cmp) → Contains images t → IsTrue (contains t a)
  has_it t has =
      let from = Contains-map_source (λ (s : FinSet nat_cmp). insert s a) sets t has in
      subst (λ (u : FinSet nat_cmp). IsTrue (contains u a)) from.2 (grind (arith, nat_tests, members))

  -- the images so far are apart from the sets and from one another
  differ_so_far : (k : ℕ) → k ≤ length sets → AllDiffer (sets ++ take k images)
  differ_so_far zero h = subst AllDiffer (sym (append-nil sets)) before.differ
  differ_so_far (suc k) h =
      let long : length images ≡ length sets = length-map sets (λ (s : FinSet nat_cmp). insert s a) in
      let own : FinSet nat_cmp = get_or sets k empty in
      let item : FinSet nat_cmp = insert own a in
      let read : (j : ℕ) → j < length sets → get_or images j item ≡ insert (get_or sets j empty) a = λ j l. get_or-map (λ (s : FinSet nat_cmp). insert s a) sets j empty item l in
      let e : suc k ≡ k + 1 = omega arith in
      let more : take (suc k) images ≡ take k images ++ item ∷ [] =
      ap (λ n. take n images) e ∙ take_more images k item (omega arith) ∙ ap (λ t. take k images ++ t ∷ []) (read k (omega arith)) in
      let out : Contains (sets ++ take k images) item → ⊥ = λ c. ⊎_elim
      (λ (old : Contains sets item). false≢true (sym (lacks item old) ∙ (let there : IsTrue (contains (insert own a) a) = grind (arith, nat_tests, members) in there)))
      (λ (new : Contains (take k images) item).
      let j = new.0 in
      let low : j < k = omega (arith, new.1, length-take k images) in
      let same : insert (get_or sets j empty) a ≡ insert own a = sym (read j (omega arith)) ∙ sym (get_or-take k images j item low) ∙ new.2 in
      let inside : (i : ℕ) → i < length sets → contains (get_or sets i empty) a ≡ false = λ i l. lacks (get_or sets i empty) (Contains-get_or sets i empty l) in
      before.differ j k empty low (omega arith) (insert_one (get_or sets j empty) own a (inside j (omega arith)) (inside k (omega arith)) same))
      (Contains-append_cases sets (take k images) item c) in
      subst AllDiffer (append_assoc sets (take k images) (item ∷ []) ∙ ap (λ t. sets ++ t) (sym more)) (AllDiffer-push (sets ++ take k images) item (differ_so_far k (omega arith)) out)

  all_of : (s : FinSet nat_cmp) → Contains (with_each sets a) s → IsOf (numbers ++ a ∷ []) s
  all_of s c b one = ⊎_elim
      (λ (old : Contains sets s). Contains-append_left numbers (a ∷ []) b ((before.all s).0 old b one))
      (λ (new : Contains images s).
      let from = Contains-map_source (λ (t : FinSet nat_cmp). insert t a) sets s new in
      let there : contains (insert from.0 a) b ≡ true = ap (λ (u : FinSet nat_cmp). contains u b) from.2 ∙ one in
      elim (cases_eq b a) [
        | inl is ↦ subst (Contains (numbers ++ a ∷ [])) (sym is) (Contains-push numbers a)
        | inr other ↦ Contains-append_left numbers (a ∷ []) b ((before.all from.0).0 from.1 b (grind (arith, nat_tests, members, there, other)))
      ])
      (Contains-append_cases sets images s c)

  all_there : (s : FinSet nat_cmp) → IsOf (numbers ++ a ∷ []) s → Contains (with_each sets a) s
  all_there s of =
      elim (contains s a) as (λ v. contains s a ≡ v → Contains (with_each sets a) s) [
        | false ↦ λ out. Contains-append_left sets images s ((before.all s).1 (λ b one. ⊎_elim
            (λ (old : Contains numbers b). old)
            (λ (is : a ≡ b). absurd (false≢true (sym out ∙ subst (λ (k : ℕ). contains s k ≡ true) (sym is) one)))
            (Contains-push_cases numbers a b (of b one))))
        | true ↦ λ in'.
            let t : FinSet nat_cmp = less s a in
            let of_t : IsOf numbers t = λ b one. ⊎_elim
            (λ (old : Contains numbers b). old)
            (λ (is : a ≡ b). absurd (less_misses s a (subst (λ (k : ℕ). IsTrue (contains t k)) (sym is) one)))
            (Contains-push_cases numbers a b (of b (subset_at t s b (less_within s a) one))) in
            let back : insert t a ≡ s = put_back s a in' in
            Contains-append_right sets images s (subst (Contains images) back (Contains-map (λ (u : FinSet nat_cmp). insert u a) sets t ((before.all t).1 of_t)))
      ] refl

  read_old : (k : ℕ) (d : FinSet nat_cmp) → k < length sets → get_or (with_each sets a) k d ≡ get_or sets k d
  read_old k d low = get_or_append_left sets images d k low

  read_new : (k j : ℕ) (d : FinSet nat_cmp) → k < length sets → length sets + k ≡ j → get_or (with_each sets a) j d ≡ insert (get_or sets k d) a
  read_new k j d low e = ap (λ i. get_or (sets ++ images) i d) (sym e) ∙ get_or-append-add sets images k d ∙ get_or-map (λ (s : FinSet nat_cmp). insert s a) sets k d d low

  lacks_at : (k : ℕ) (d : FinSet nat_cmp) → k < length sets → contains (get_or sets k d) a ≡ false
  lacks_at k d low = lacks (get_or sets k d) (Contains-get_or sets k d low)

  -- a part of a set with the number, both without it
  part_without : (s t : FinSet nat_cmp) → contains s a ≡ false → IsTrue (is_subset (insert s a) (insert t a)) → IsTrue (is_subset s t)
  part_without s t out part = subset_by s t (λ q one.
      let there = subset_at (insert s a) (insert t a) q part (grind (arith, nat_tests, contains-insert nat_cmp_total s a q, one)) in
      elim (cases_eq q a) [
        | inl is ↦ absurd (false≢true (sym out ∙ subst (λ (k : ℕ). contains s k ≡ true) is one))
        | inr other ↦ grind (arith, nat_tests, contains-insert nat_cmp_total t a q, there, other)
      ])

  parts_first : (i j : ℕ) (d : FinSet nat_cmp) → i < length (with_each sets a) → j < length (with_each sets a) → IsTrue (is_subset (get_or (with_each sets a) i d) (get_or (with_each sets a) j d)) → i ≤ j
  parts_first i j d low high part =
      let n : ℕ = length sets in
      let long : length (with_each sets a) ≡ n + n = omega (arith, length-append sets images, length-map sets (λ (s : FinSet nat_cmp). insert s a)) in
      elim (cases_lt i n) [
        | inl old ↦ elim (cases_lt j n) [
          | inl old' ↦ before.parts_first i j d old old' (rw (read_old i d old, read_old j d old') at part)
          | inr new' ↦ omega arith
        ]
        | inr new ↦
            let k : ℕ = i - n in
            let small : k < n = omega (arith, long) in
            let is_i = read_new k i d small (omega arith) in
            elim (cases_lt j n) [
              | inl old' ↦
                  let inside : IsTrue (is_subset (insert (get_or sets k d) a) (get_or sets j d)) = rw (is_i, read_old j d old') at part in
                  absurd (false≢true (sym (lacks_at j d old') ∙ subset_at (insert (get_or sets k d) a) (get_or sets j d) a inside (grind (arith, nat_tests, contains-insert nat_cmp_total (get_or sets k d) a a))))
              | inr new' ↦
                  let l : ℕ = j - n in
                  let small' : l < n = omega (arith, long) in
                  let inside : IsTrue (is_subset (insert (get_or sets k d) a) (insert (get_or sets l d) a)) = rw (is_i, read_new l j d small' (omega arith)) at part in
                  let first = before.parts_first k l d small small' (part_without (get_or sets k d) (get_or sets l d) (lacks_at k d small) inside) in
                  omega arith
            ]
      ]

  pub subsets_more : AreSubsetsOf (numbers ++ a ∷ []) (with_each sets a)
  subsets_more = record {
    differ = subst (λ ts. AllDiffer (sets ++ ts)) (take_all (length sets) images (omega (arith, length-map sets (λ (s : FinSet nat_cmp). insert s a)))) (differ_so_far (length sets) (omega arith));
    all = λ s. (all_of s, all_there s);
    parts_first = parts_first;
  }

-- the next of numbers that ascend is none of those before
pub next_fresh : (numbers : List ℕ) (i : ℕ) → IsAscending numbers → i < length numbers → Contains (take i numbers) (get_or numbers i 0) → ⊥
next_fresh numbers i up low c =
    let j = c.0 in
    let before : j < i = omega (arith, c.1, length-take i numbers) in
    let less_than = up j i before low in
    let same : get_or numbers j (get_or numbers i 0) ≡ get_or numbers i 0 = sym (get_or-take i numbers j (get_or numbers i 0) before) ∙ c.2 in
    let read = get_or_default numbers j (get_or numbers i 0) 0 (omega arith) in
    omega (arith, less_than, same, read)

-- a round: the sets of the numbers before the i-th become those of the numbers up to it
pub round : (numbers : List ℕ) (i a : ℕ) (sets next : List (FinSet nat_cmp)) → IsAscending numbers → i < length numbers → a ≡ get_or numbers i 0 → AreSubsetsOf (take i numbers) sets → next ≡ with_each sets a → AreSubsetsOf (take (i + 1) numbers) next
round numbers i a sets next up low is before e =
    let fresh : Contains (take i numbers) a → ⊥ = λ c. next_fresh numbers i up low (subst (Contains (take i numbers)) is c) in
    let more : take (i + 1) numbers ≡ take i numbers ++ a ∷ [] = take_more numbers i 0 low ∙ ap (λ k. take i numbers ++ k ∷ []) (sym is) in
    subst (λ ns. AreSubsetsOf ns next) (sym more) (subst (AreSubsetsOf (take i numbers ++ a ∷ [])) (sym e) (subsets_more (take i numbers) a fresh sets before))

-- ---- each set with the number at the end, one after another

pub images_more : (sets : List (FinSet nat_cmp)) (a i : ℕ) (now next : List (FinSet nat_cmp)) (item : FinSet nat_cmp) → i < length sets → now ≡ sets ++ map (λ s. insert s a) (take i sets) → item ≡ insert (get_or sets i empty) a → next ≡ now ++ item ∷ [] → next ≡ sets ++ map (λ s. insert s a) (take (i + 1) sets)
images_more sets a i now next item low so is e =
    let f : FinSet nat_cmp → FinSet nat_cmp = λ s. insert s a in
    let more : map f (take (i + 1) sets) ≡ map f (take i sets) ++ item ∷ [] =
    ap (map f) (take_more sets i empty low) ∙ map-append f (take i sets) (get_or sets i empty ∷ []) ∙ ap (λ t. map f (take i sets) ++ t ∷ []) (sym is) in
    e ∙ ap (λ z. z ++ item ∷ []) so ∙ append_assoc sets (map f (take i sets)) (item ∷ []) ∙ ap (λ z. sets ++ z) (sym more)
