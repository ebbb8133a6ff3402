-- Rows have one part exactly where they agree at its columns; rows that all agree with the first ones of their left parts do not clash.
use Rattle.std.proofs.Common.{◌≡◌, ◌⊎◌, ◌<◌, ◌+◌, ◌++◌, ℕ, true, false, cond, zero, suc, List, [], ◌∷◌, length, take, slice_get, get_or, Option, None, Some, refl, sym, ap, subst, ◌∙◌, append-nil, Contains, inl, inr, arith, below_more}
use Rattle.std.specs.Prelude.{IsTrue, pos}
use Rattle.std.specs.Ordering.{nat_cmp}
use Rattle.std.specs.FinSet.{FinSet, contains}
use Rattle.std.specs.HashMap.{HashMap, Updates}
use Rattle.std.specs.Cmp.Lexicographic.{pointwise}
use Rattle.std.proofs.lemmas.Option.{none-some, slice_get-get_or}
use Rattle.std.proofs.lemmas.List.{get_or_default}
use Rattle.su_base.proofs.Same.{row_eq-Decides}
use Rattle.su_base.specs.declared.values.Value.{Value}
use Rattle.su_base.specs.declared.values.Value.TheVariants.{Int}
use Rattle.su_base.specs.contracts.values.ValuePartialEq.TheImpl.{ghosts}
use Rattle.su_state.specs.declared.sides.Sides.{Sides}
use Rattle.su_state.specs.inside.Sides.{AgreeAt, Clash, row_at}
use Rattle.su_state.specs.inside.Parts.{part_from, part_of, noted_in, Notes, HaveOneWidth}

-- the part of the first rows' values, with one value more
part_more : (first : ℕ) (columns : FinSet nat_cmp) (row : List Value) (c : ℕ) (v : Value) → slice_get row c ≡ Some v → part_from first columns (take (suc c) row) ≡ part_from first columns (take c row) ++ cond (contains columns (first + c)) (v ∷ []) []
part_more first columns [] c v at = cc
part_more first columns (x ∷ row) zero v at =
    let same : x ≡ v = cc in
    let here : first + 0 ≡ first = omega arith in
    rw (here, same) refl
part_more first columns (x ∷ row) (suc c) v at =
    let rest = part_more (first + 1) columns row c v at in
    let here : first + suc c ≡ (first + 1) + c = omega arith in
    rw here (
    elim (contains columns first) as (λ b. cond b (x ∷ part_from (first + 1) columns (take (suc c) row)) (part_from (first + 1) columns (take (suc c) row)) ≡ cond b (x ∷ part_from (first + 1) columns (take c row)) (part_from (first + 1) columns (take c row)) ++ cond (contains columns ((first + 1) + c)) (v ∷ []) []) [
      | true ↦ ap (λ p. x ∷ p) rest
      | false ↦ rest
    ])

same_part : (first : ℕ) (columns : FinSet nat_cmp) (row other : List Value) → length row ≡ length other → ((c : ℕ) → IsTrue (contains columns (first + c)) → slice_get row c ≡ slice_get other c) → part_from first columns row ≡ part_from first columns other
same_part first columns [] [] same agree = refl
same_part first columns [] (y ∷ other) same agree = absurd (omega (arith, same))
same_part first columns (x ∷ row) [] same agree = absurd (omega (arith, same))
same_part first columns (x ∷ row) (y ∷ other) same agree =
    let rest = same_part (first + 1) columns row other (omega (arith, same))
    (λ c there. let at : (first + 1) + c ≡ first + suc c = omega arith in agree (suc c) (subst (λ (n : ℕ). IsTrue (contains columns n)) at there)) in
    elim (contains columns first) as (λ b. contains columns first ≡ b → cond b (x ∷ part_from (first + 1) columns row) (part_from (first + 1) columns row) ≡ cond b (y ∷ part_from (first + 1) columns other) (part_from (first + 1) columns other)) [
      | true ↦ λ e.
          let at : first ≡ first + 0 = omega arith in
          let heads : Some x ≡ Some y = agree 0 (subst (λ (n : ℕ). IsTrue (contains columns n)) at e) in
          let head : x ≡ y = cc in
          cc
      | false ↦ λ e. rest
    ] refl

agree_from_part : (first : ℕ) (columns : FinSet nat_cmp) (row other : List Value) → length row ≡ length other → part_from first columns row ≡ part_from first columns other → (c : ℕ) → IsTrue (contains columns (first + c)) → slice_get row c ≡ slice_get other c
agree_from_part first columns [] [] same parts c there = refl
agree_from_part first columns [] (y ∷ other) same parts c there = absurd (omega (arith, same))
agree_from_part first columns (x ∷ row) [] same parts c there = absurd (omega (arith, same))
agree_from_part first columns (x ∷ row) (y ∷ other) same parts zero there =
    let at : first + 0 ≡ first = omega arith in
    let here : contains columns first ≡ true = subst (λ (n : ℕ). IsTrue (contains columns n)) at there in
    let lists : x ∷ part_from (first + 1) columns row ≡ y ∷ part_from (first + 1) columns other = rw here at parts in
    let head : x ≡ y = cc in
    ap Some head
agree_from_part first columns (x ∷ row) (y ∷ other) same parts (suc c) there =
    let at : first + suc c ≡ (first + 1) + c = omega arith in
    let tails : part_from (first + 1) columns row ≡ part_from (first + 1) columns other =
    elim (contains columns first) as (λ b. cond b (x ∷ part_from (first + 1) columns row) (part_from (first + 1) columns row) ≡ cond b (y ∷ part_from (first + 1) columns other) (part_from (first + 1) columns other) → part_from (first + 1) columns row ≡ part_from (first + 1) columns other) [
      | true ↦ λ e. cc
      | false ↦ λ e. e
    ] parts in
    agree_from_part (first + 1) columns row other (omega (arith, same)) tails c (subst (λ (n : ℕ). IsTrue (contains columns n)) at there)

pub part_pushed : (columns : FinSet nat_cmp) (row part : List Value) (c n : ℕ) (v : Value) → slice_get row c ≡ Some v → contains columns c ≡ true → n ≡ suc c → part ≡ part_of columns (take c row) → part ++ v ∷ [] ≡ part_of columns (take n row)
part_pushed columns row part c n v at there next is =
    let zeroed : 0 + c ≡ c = omega arith in
    let more : part_from 0 columns (take (suc c) row) ≡ part_from 0 columns (take c row) ++ cond (contains columns c) (v ∷ []) [] = rw zeroed at (part_more 0 columns row c v at) in
    rw next (sym (more ∙ ap (λ b. part_from 0 columns (take c row) ++ cond b (v ∷ []) []) there ∙ ap (λ p. p ++ v ∷ []) (sym is)))

pub part_passed : (columns : FinSet nat_cmp) (row part : List Value) (c n : ℕ) → c < length row → contains columns c ≡ false → n ≡ suc c → part ≡ part_of columns (take c row) → part ≡ part_of columns (take n row)
part_passed columns row part c n within out next is =
    let v : Value = get_or row c (Int (pos 0)) in
    let zeroed : 0 + c ≡ c = omega arith in
    let more : part_from 0 columns (take (suc c) row) ≡ part_from 0 columns (take c row) ++ cond (contains columns c) (v ∷ []) [] = rw zeroed at (part_more 0 columns row c v (slice_get-get_or row c (Int (pos 0)) within)) in
    rw next (is ∙ sym (more ∙ ap (λ b. part_from 0 columns (take c row) ++ cond b (v ∷ []) []) out ∙ append-nil (part_from 0 columns (take c row))))

-- what is found under the row's left part
pub noted_there : (left : FinSet nat_cmp) (notes : List Value → Option ℕ) (row part : List Value) (position first : ℕ) → part ≡ part_of left row → notes part ≡ Some first → Notes left notes notes row position first
noted_there left notes row part position first is there = record {
  here = ap notes (sym is) ∙ there;
  kept = λ l p before. before;
  made = λ l p after. inl after;
}

-- a position put where none stood
pub noted_new : {S : Type 0} (left : FinSet nat_cmp) (old new : HashMap (List Value) ℕ S) (row part : List Value) (position : ℕ) → part ≡ part_of left row → Updates (pointwise ghosts.eq) old new part (Some position) → noted_in old part ≡ None → Notes left (noted_in old) (noted_in new) row position position
noted_new left old new row part position is updated none = record {
  here = ap (noted_in new) (sym is) ∙ updated.1;
  kept = λ l p there.
      elim (pointwise ghosts.eq part l) as (λ b. pointwise ghosts.eq part l ≡ b → noted_in new l ≡ Some p) [
        | true ↦ λ e.
            let same : part ≡ l = (row_eq-Decides part l _ refl).0 e in
            absurd (none-some p (sym none ∙ ap (noted_in old) same ∙ there))
        | false ↦ λ e. updated.2 l e ∙ there
      ] refl;
  made = λ l p there.
      elim (pointwise ghosts.eq part l) as (λ b. pointwise ghosts.eq part l ≡ b → (noted_in old l ≡ Some p) ⊎ ((l ≡ part_of left row) × (p ≡ position))) [
        | true ↦ λ e.
            let same : part ≡ l = (row_eq-Decides part l _ refl).0 e in
            let one : Some p ≡ Some position = sym there ∙ ap (noted_in new) (sym same) ∙ updated.1 in
            inr (sym same ∙ is, cc)
        | false ↦ λ e. inl (sym (updated.2 l e) ∙ there)
      ] refl;
}

pub same_left : (columns : FinSet nat_cmp) (row other : List Value) → length row ≡ length other → AgreeAt columns row other → part_of columns row ≡ part_of columns other
same_left columns row other same agree =
    let zeroed : (c : ℕ) → 0 + c ≡ c = λ c. omega arith in
    same_part 0 columns row other same (λ c on. agree c (subst (λ (n : ℕ). IsTrue (contains columns n)) (zeroed c) on))

pub agree_left : (columns : FinSet nat_cmp) (row other : List Value) → length row ≡ length other → part_of columns row ≡ part_of columns other → AgreeAt columns row other
agree_left columns row other same parts c on =
    let zeroed : 0 + c ≡ c = omega arith in
    agree_from_part 0 columns row other same parts c (subst (λ (n : ℕ). IsTrue (contains columns n)) (sym zeroed) on)

-- the first n rows agree on the right side with the first ones with their left parts
pub record AreAlike (sides : Sides) (rows : List (List Value)) (noted : List Value → Option ℕ) (n : ℕ) : Type 0 where
  pub within : (part : List Value) (p : ℕ) → noted part ≡ Some p → p < n
  pub alike : (p : ℕ) → p < n → (first : ℕ) × (noted (part_of sides.left (row_at rows p)) ≡ Some first) × AgreeAt sides.right (row_at rows p) (row_at rows first)

pub alike_more : (sides : Sides) (rows : List (List Value)) (old new : List Value → Option ℕ) (n first : ℕ) → AreAlike sides rows old n → Notes sides.left old new (row_at rows n) n first → AgreeAt sides.right (row_at rows n) (row_at rows first) → AreAlike sides rows new (n + 1)
alike_more sides rows old new n first so_far notes agree = record {
  within = λ part p there. elim (notes.made part p there) [
    | inl before ↦ let below = so_far.within part p before in omega arith
    | inr (_, is) ↦ omega (arith, is)
  ];
  alike = below_more (λ p. (q : ℕ) × (new (part_of sides.left (row_at rows p)) ≡ Some q) × AgreeAt sides.right (row_at rows p) (row_at rows q)) n
      (λ p below. let old_one = so_far.alike p below in (old_one.0, notes.kept _ old_one.0 old_one.1, old_one.2))
      (first, notes.here, agree);
}

-- the position of what is noted, once the row is
pub noted_within : (sides : Sides) (rows : List (List Value)) (old new : List Value → Option ℕ) (row : List Value) (n first : ℕ) → AreAlike sides rows old n → Notes sides.left old new row n first → first < n + 1
noted_within sides rows old new row n first so_far notes = elim (notes.made _ first notes.here) [
  | inl before ↦ let below = so_far.within _ first before in omega arith
  | inr (_, is) ↦ omega (arith, is)
]

-- of rows that all agree with the first ones with their left parts no two clash
pub none_of_alike : (sides : Sides) (rows : List (List Value)) (noted : List Value → Option ℕ) (n : ℕ) → n ≡ length rows → AreAlike sides rows noted n → HaveOneWidth rows → (row other : List Value) → Contains rows row → Contains rows other → ¬ Clash sides row other
none_of_alike sides rows noted n all so_far width row other here there clash =
    let same = width row other here there in
    let is_row : row_at rows here.0 ≡ row = get_or_default rows here.0 [] row here.1 ∙ here.2 in
    let is_other : row_at rows there.0 ≡ other = get_or_default rows there.0 [] other there.1 ∙ there.2 in
    let one = so_far.alike here.0 (omega (arith, here.1)) in
    let two = so_far.alike there.0 (omega (arith, there.1)) in
    let lefts : part_of sides.left (row_at rows here.0) ≡ part_of sides.left (row_at rows there.0) = rw (is_row, is_other) (same_left sides.left row other same clash.0) in
    let firsts : Some one.0 ≡ Some two.0 = sym one.1 ∙ ap noted lefts ∙ two.1 in
    let first : one.0 ≡ two.0 = cc in
    let a : AgreeAt sides.right row (row_at rows one.0) = subst (λ (r : List Value). AgreeAt sides.right r (row_at rows one.0)) is_row one.2 in
    let b : AgreeAt sides.right other (row_at rows one.0) = subst (λ (q : ℕ). AgreeAt sides.right other (row_at rows q)) (sym first) (subst (λ (r : List Value). AgreeAt sides.right r (row_at rows two.0)) is_other two.2) in
    clash.1 (λ c on. a c on ∙ sym (b c on))
