-- Components are read off labels.
use Rattle.std.proofs.Common.{◌≡◌, ℕ, zero, suc, ◌+◌, ◌<◌, ◌≤◌, List, [], ◌∷◌, length, get_or, Contains, refl, sym, ap, subst, ◌∙◌, ⊎_elim, arith}
use Rattle.std.specs.Prelude.{nat_eq, map, filter}
use Rattle.std.specs.List.{range_with_len}
use Rattle.std.specs.List.Sorted.{IsStrictlySortedBy}
use Rattle.std.specs.Ordering.{nat_cmp}
use Rattle.std.proofs.lemmas.Bool.{cases_lt}
use Rattle.std.proofs.lemmas.Bool.Decides.{nat_tests}
use Rattle.std.proofs.lemmas.List.{get_or-map, length-map, get_or_default}
use Rattle.std.proofs.lemmas.List.FromFn.{length-range_with_len, get_or-range_with_len}
use Rattle.std.proofs.lemmas.List.Kept.{IsStrictlySortedBy-filter}
use Rattle.std.proofs.lemmas.Map.Keys.{sorted_from_strictly_increasing, below_from_sorted}
use Rattle.su_base.proofs.Items.{Contains-filter, Contains-filter_source, Contains-range, Contains-range_below}
use Rattle.su_exec.specs.declared.tasks.Task.{Task}
use Rattle.su_exec.specs.Components.{IsLabelling, AreTogether, AreComponents, first_of}
use Rattle.su_exec.specs.inside.Labels.{label_of, AreLabels, rows_of}

-- the rows with a label of their own
abbrev pub own_rows : List ℕ → List ℕ
own_rows labels = filter (λ i. nat_eq (label_of labels i) i) (range_with_len 0 (length labels))

range_sorted : (n : ℕ) → IsStrictlySortedBy nat_cmp (range_with_len 0 n)
range_sorted n = sorted_from_strictly_increasing (range_with_len 0 n) (λ k l.
    let len = length-range_with_len 0 n in
    let a = get_or-range_with_len 0 n k 0 (omega arith) in
    let b = get_or-range_with_len 0 n (k + 1) 0 (omega arith) in
    omega arith)

-- ---- rows by labels

module _ (ls : List ℕ) where
  pub in_rows : (x i : ℕ) → Contains (rows_of ls x) i → (i < length ls) × (label_of ls i ≡ x)
  in_rows x i h = let f = Contains-filter_source (λ i. nat_eq (label_of ls i) x) (range_with_len 0 (length ls)) i h in let t = f.1 in (Contains-range_below (length ls) i f.0, grind (arith, nat_tests, t))

  pub of_rows : (x i : ℕ) → i < length ls → label_of ls i ≡ x → Contains (rows_of ls x) i
  of_rows x i l e = Contains-filter (λ i. nat_eq (label_of ls i) x) (range_with_len 0 (length ls)) i (Contains-range (length ls) i l) (grind (arith, nat_tests, e))

  pub in_own : (i : ℕ) → Contains (own_rows ls) i → (i < length ls) × (label_of ls i ≡ i)
  in_own i h = let f = Contains-filter_source (λ i. nat_eq (label_of ls i) i) (range_with_len 0 (length ls)) i h in let t = f.1 in (Contains-range_below (length ls) i f.0, grind (arith, nat_tests, t))

  pub of_own : (i : ℕ) → i < length ls → label_of ls i ≡ i → Contains (own_rows ls) i
  of_own i l e = Contains-filter (λ i. nat_eq (label_of ls i) i) (range_with_len 0 (length ls)) i (Contains-range (length ls) i l) (grind (arith, nat_tests, e))

  rows_sorted : (x : ℕ) → IsStrictlySortedBy nat_cmp (rows_of ls x)
  rows_sorted x = IsStrictlySortedBy-filter nat_cmp (λ i. nat_eq (label_of ls i) x) (range_with_len 0 (length ls)) (range_sorted (length ls))

  own_sorted : IsStrictlySortedBy nat_cmp (own_rows ls)
  own_sorted = IsStrictlySortedBy-filter nat_cmp (λ i. nat_eq (label_of ls i) i) (range_with_len 0 (length ls)) (range_sorted (length ls))

past : (xs : List (List ℕ)) (p : ℕ) → length xs ≤ p → length (get_or xs p []) ≡ 0
past [] p h = refl
past (x ∷ xs) zero h = absurd (omega arith)
past (x ∷ xs) (suc p) h = past xs p (omega arith)

module _ (task : Task) (ls : List ℕ) (labels : AreLabels task ls) (joined : IsLabelling task (label_of ls)) where
  abbrev own : List ℕ
  own = own_rows ls

  abbrev parts : List (List ℕ)
  parts = map (rows_of ls) own

  parts_len : length parts ≡ length own
  parts_len = length-map own (rows_of ls)

  part_at : (p : ℕ) → p < length own → get_or parts p [] ≡ rows_of ls (get_or own p 0)
  part_at p l = get_or-map (rows_of ls) own p 0 [] l

  own_at : (p : ℕ) → p < length own → (get_or own p 0 < length ls) × (label_of ls (get_or own p 0) ≡ get_or own p 0)
  own_at p l = in_own ls (get_or own p 0) (p, l, get_or_default own p (get_or own p 0) 0 l)

  -- the part of the rows with a label
  part_of_own : (x : ℕ) → Contains own x → Contains parts (rows_of ls x)
  part_of_own x h =
      let l = h.1 in
      let at : get_or parts h.0 (rows_of ls x) ≡ rows_of ls (get_or own h.0 x) = get_or-map (rows_of ls) own h.0 x (rows_of ls x) l in
      (h.0, let e = parts_len in omega arith, at ∙ ap (rows_of ls) h.2)

  part_is : (part : List ℕ) → Contains parts part → (x : ℕ) × Contains own x × (rows_of ls x ≡ part)
  part_is part h =
      let e = parts_len in
      let m = h.1 in
      let l : h.0 < length own = omega arith in
      (get_or own h.0 0, (h.0, l, get_or_default own h.0 (get_or own h.0 0) 0 l), sym (get_or-map (rows_of ls) own h.0 0 part l) ∙ h.2)

  together : (i j : ℕ) → i < length ls → j < length ls → label_of ls i ≡ label_of ls j → AreTogether parts i j
  together i j il jl e =
      let least = labels.least i il in
      record {
        part = rows_of ls (label_of ls i);
        among = part_of_own (label_of ls i) (of_own ls (label_of ls i) (omega arith) (labels.own i il));
        first = of_rows ls (label_of ls i) i il refl;
        second = of_rows ls (label_of ls i) j jl (sym e);
      }

  one_label : (i j : ℕ) → AreTogether parts i j → (i < length ls) × (label_of ls i ≡ label_of ls j)
  one_label i j t =
      let x = part_is t.part t.among in
      let a = in_rows ls x.0 i (subst (λ part. Contains part i) (sym x.2) t.first) in
      let b = in_rows ls x.0 j (subst (λ part. Contains part j) (sym x.2) t.second) in
      (a.0, a.1 ∙ sym b.1)

  -- a part that has a row is numbered
  part_in : (p i : ℕ) → Contains (get_or parts p []) i → p < length own
  part_in p i h =
      ⊎_elim
      (λ (l : p < length own). l)
      (λ (l : length own ≤ p). absurd (let e = parts_len in let empty : length (get_or parts p []) ≡ 0 = past parts p (omega arith) in let m = h.1 in omega arith))
      (cases_lt p (length own))

  label_at : (p i : ℕ) → (l : p < length own) → Contains (get_or parts p []) i → label_of ls i ≡ get_or own p 0
  label_at p i l h = (in_rows ls (get_or own p 0) i (subst (λ part. Contains part i) (part_at p l) h)).1

  own_once : (p q : ℕ) → p < length own → q < length own → get_or own p 0 ≡ get_or own q 0 → p ≡ q
  own_once p q pl ql e =
      ⊎_elim
      (λ (l : p < q). absurd (let b = below_from_sorted own p q 0 (own_sorted ls) l ql in omega arith))
      (λ (l : q ≤ p).
      ⊎_elim (λ (m : q < p). absurd (let b = below_from_sorted own q p 0 (own_sorted ls) m pl in omega arith)) (λ (m : p ≤ q). omega arith) (cases_lt q p))
      (cases_lt p q)

  -- the first row of a part is its label
  first_is : (p : ℕ) → p < length own → first_of parts p ≡ get_or own p 0
  first_is p l =
      let x = get_or own p 0 in
      let at = own_at p l in
      let rows = rows_of ls x in
      let member : Contains rows x = of_rows ls x x at.0 at.1 in
      let ml = member.1 in
      let first : Contains rows (get_or rows 0 0) = (0, omega arith, get_or_default rows 0 (get_or rows 0 0) 0 (omega arith)) in
      let f = in_rows ls x (get_or rows 0 0) first in
      let least = labels.least (get_or rows 0 0) f.0 in
      let fe = f.1 in
      let up : get_or rows 0 0 ≤ x =
      ⊎_elim
      (λ (z : 0 < member.0). let b = below_from_sorted rows 0 member.0 0 (rows_sorted ls x) z ml in let e : get_or rows member.0 0 ≡ x = get_or_default rows member.0 0 x ml ∙ member.2 in omega arith)
      (λ (z : member.0 ≤ 0). let k : member.0 ≡ 0 = omega arith in let e : get_or rows 0 0 ≡ x = ap (λ k. get_or rows k 0) (sym k) ∙ get_or_default rows member.0 0 x ml ∙ member.2 in omega arith)
      (cases_lt 0 member.0) in
      let e : get_or rows 0 0 ≡ x = omega arith in
      ap (λ part. get_or part 0 0) (part_at p l) ∙ e

  pub are_components : AreComponents task parts
  are_components = record {
    rows = λ i. (
      λ l. let m : i < length ls = let c = labels.count in omega arith in together i i m m refl,
      λ t. let a = (one_label i i t).0 in let c = labels.count in omega arith,
    );
    together = λ i j il jl.
        let c = labels.count in
        let im : i < length ls = omega arith in
        let jm : j < length ls = omega arith in (
          λ t. labels.connected i j im jm (one_label i j t).1,
          λ h. together i j im jm (h (label_of ls) joined),
        );
    once = λ p q i hp hq.
        let pl = part_in p i hp in
        let ql = part_in q i hq in
        own_once p q pl ql (sym (label_at p i pl hp) ∙ label_at q i ql hq);
    ascending = λ k d l.
        let m : k < length own = let e = parts_len in omega arith in
        subst (IsStrictlySortedBy nat_cmp) (sym (get_or-map (rows_of ls) own k 0 d m)) (rows_sorted ls (get_or own k 0));
    ordered = λ p q l m.
        let e = parts_len in
        let ql : q < length own = omega arith in
        let a = first_is p (omega arith) in
        let b = first_is q ql in
        let c = below_from_sorted own p q 0 (own_sorted ls) l ql in
        omega arith;
    some = λ k d l.
        let m : k < length own = let e = parts_len in omega arith in
        let at = own_at k m in
        let h = of_rows ls (get_or own k 0) (get_or own k 0) at.0 at.1 in
        let hl = h.1 in
        let e : get_or parts k d ≡ rows_of ls (get_or own k 0) = get_or-map (rows_of ls) own k 0 d m in
        let f : length (get_or parts k d) ≡ length (rows_of ls (get_or own k 0)) = ap length e in
        omega arith;
  }
