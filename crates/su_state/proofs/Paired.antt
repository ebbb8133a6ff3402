-- The least pair of rows that clash: the least row whose first one is marked has a partner, and no lesser row has.
use Rattle.std.proofs.Common.{◌≡◌, ◌<◌, ◌≤◌, ◌+◌, ◌++◌, ℕ, Bool, true, false, List, [], ◌∷◌, length, set, Option, Some, None, MatchOption, sym, ap, subst, ◌∙◌, Contains, inl, inr, arith, below_more}
use Rattle.std.specs.Ordering.{nat_cmp}
use Rattle.std.specs.FinSet.{FinSet}
use Rattle.std.proofs.lemmas.Bool.{cases_Bool, cases_eq, false≢true}
use Rattle.std.proofs.lemmas.List.{get_or_default, get_or_push, get_or_append_left, length_push, get_or-set_same, get_or-set_other, length-set}
use Rattle.std.proofs.lemmas.List.Elements.{Contains-get_or}
use Rattle.su_base.specs.declared.values.Value.{Value}
use Rattle.su_state.specs.declared.sides.Sides.{Sides}
use Rattle.su_state.specs.inside.Sides.{AgreeAt, IsAtMost, Clash, IsLeastClash, TakesLesser, row_at}
use Rattle.su_state.specs.inside.Parts.{part_of, Notes, HaveOneWidth}
use Rattle.su_state.specs.inside.Pairs.{first_at, AreFirsts, mark_at, AreMarks, IsMarked, IsLeastMarked, IsLeastPair}
use Rattle.su_state.proofs.Least.{at_most_itself, at_most_through, less_is_at_most, at_most_since}
use Rattle.su_state.proofs.Noted.{same_left, agree_left}

-- what is noted of the first n rows, and the positions that stand for them
pub record AreNoted (left : FinSet nat_cmp) (rows : List (List Value)) (noted : List Value → Option ℕ) (n : ℕ) (firsts : List ℕ) : Type 0 where
  pub each : length firsts ≡ n
  pub here : (p : ℕ) → p < n → noted (part_of left (row_at rows p)) ≡ Some (first_at firsts p)
  pub made : (part : List Value) (k : ℕ) → noted part ≡ Some k → (k < n) × (part ≡ part_of left (row_at rows k))

pub noted_more : (left : FinSet nat_cmp) (rows : List (List Value)) (old new : List Value → Option ℕ) (n first : ℕ) (firsts : List ℕ) → AreNoted left rows old n firsts → Notes left old new (row_at rows n) n first → AreNoted left rows new (n + 1) (firsts ++ first ∷ [])
noted_more left rows old new n first firsts so_far notes = record {
  each = length_push firsts first ∙ ap (λ k. k + 1) so_far.each;
  here = below_more (λ p. new (part_of left (row_at rows p)) ≡ Some (first_at (firsts ++ first ∷ []) p)) n
      (λ p below. notes.kept _ (first_at firsts p) (so_far.here p below) ∙ ap Some (sym (get_or_append_left firsts (first ∷ []) 0 p (omega (arith, below, so_far.each)))))
      (notes.here ∙ ap Some (sym (get_or_push firsts first 0 n so_far.each)));
  made = λ part k there. elim (notes.made part k there) [
    | inl before ↦ let old_one = so_far.made part k before in (omega (arith, old_one.0), old_one.1)
    | inr (part_is, is) ↦ (omega (arith, is), part_is ∙ ap (λ q. part_of left (row_at rows q)) (sym is))
  ];
}

pub firsts_all : (left : FinSet nat_cmp) (rows : List (List Value)) (noted : List Value → Option ℕ) (n : ℕ) (firsts : List ℕ) → n ≡ length rows → AreNoted left rows noted n firsts → AreFirsts left rows firsts
firsts_all left rows noted n firsts all so_far =
    let made : (p : ℕ) → p < length rows → (first_at firsts p < n) × (part_of left (row_at rows p) ≡ part_of left (row_at rows (first_at firsts p))) =
    λ p below. so_far.made (part_of left (row_at rows p)) (first_at firsts p) (so_far.here p (omega (arith, below, all))) in
    record {
      each = so_far.each ∙ all;
      within = λ p below. let one = made p below in omega (arith, one.0, all);
      alike = λ p below. (made p below).1;
      same = λ p q p_below q_below parts.
          let firsts_same : Some (first_at firsts p) ≡ Some (first_at firsts q) = sym (so_far.here p (omega (arith, p_below, all))) ∙ ap noted parts ∙ so_far.here q (omega (arith, q_below, all)) in
          cc;
    }

module _ (right : FinSet nat_cmp) (rows : List (List Value)) (firsts : List ℕ) (n : ℕ) (marks : List Bool) where
  pub none_marked : length marks ≡ length rows → ((k : ℕ) → mark_at marks k ≡ false) → AreMarks right rows firsts 0 marks
  none_marked each none = record {
    each = each;
    differ = λ k marked. absurd (false≢true (sym (none k) ∙ marked));
    agree = λ p below. absurd (omega (arith, below));
  }

  pub still_marks : AreMarks right rows firsts n marks → AgreeAt right (row_at rows n) (row_at rows (first_at firsts n)) → AreMarks right rows firsts (n + 1) marks
  still_marks so_far alike = record {
    each = so_far.each;
    differ = so_far.differ;
    agree = below_more (λ p. mark_at marks (first_at firsts p) ≡ false → AgreeAt right (row_at rows p) (row_at rows (first_at firsts p))) n so_far.agree (λ _. alike);
  }

  pub one_marked : AreMarks right rows firsts n marks → n < length rows → first_at firsts n < length rows → (¬ AgreeAt right (row_at rows n) (row_at rows (first_at firsts n))) → AreMarks right rows firsts (n + 1) (set marks (first_at firsts n) true)
  one_marked so_far below within out =
      let first : ℕ = first_at firsts n in
      let here : mark_at (set marks first true) first ≡ true = get_or-set_same marks first true false (omega (arith, within, so_far.each)) in
      record {
        each = length-set marks first true ∙ so_far.each;
        differ = λ k marked. elim (cases_eq k first) [
          | inl is ↦ (n, below, sym is, subst (λ (q : ℕ). ¬ AgreeAt right (row_at rows n) (row_at rows q)) (sym is) out)
          | inr apart ↦ so_far.differ k (sym (get_or-set_other marks first k true false apart) ∙ marked)
        ];
        agree = below_more (λ p. mark_at (set marks first true) (first_at firsts p) ≡ false → AgreeAt right (row_at rows p) (row_at rows (first_at firsts p))) n
            (λ p less unmarked. elim (cases_eq (first_at firsts p) first) [
              | inl is ↦ absurd (false≢true (sym unmarked ∙ ap (mark_at (set marks first true)) is ∙ here))
              | inr apart ↦ so_far.agree p less (sym (get_or-set_other marks first (first_at firsts p) true false apart) ∙ unmarked)
            ])
            (λ unmarked. absurd (false≢true (sym unmarked ∙ here)));
      }

module _ (rows : List (List Value)) (firsts : List ℕ) (marks : List Bool) (n : ℕ) where
  pub marked_within : (least : Option ℕ) → IsLeastMarked rows firsts marks n least → MatchOption least (0 ≤ 0) (λ q. q < length rows)
  marked_within None so_far = omega arith
  marked_within (Some q) so_far = so_far.0

  pub not_marked : (least : Option ℕ) → IsLeastMarked rows firsts marks n least → mark_at marks (first_at firsts n) ≡ false → IsLeastMarked rows firsts marks (n + 1) least
  not_marked None so_far out = below_more (λ p. ¬ IsMarked firsts marks p) n so_far (λ marked. false≢true (sym out ∙ marked))
  not_marked (Some q) so_far out = (
    so_far.0,
    so_far.1,
    below_more (λ p. IsMarked firsts marks p → IsAtMost (row_at rows q) (row_at rows p)) n so_far.2 (λ marked. absurd (false≢true (sym out ∙ marked))),
  )

  pub is_marked : (least new : Option ℕ) → n < length rows → IsLeastMarked rows firsts marks n least → IsMarked firsts marks n → TakesLesser rows least n new → IsLeastMarked rows firsts marks (n + 1) new
  is_marked None new within so_far marked is = rw is (
    within,
    marked,
    below_more (λ p. IsMarked firsts marks p → IsAtMost (row_at rows n) (row_at rows p)) n (λ p below other. absurd (so_far p below other)) (λ _. at_most_itself (row_at rows n)),
  )
  is_marked (Some q) new within so_far marked (inl (less, is)) = rw is (
    within,
    marked,
    below_more (λ p. IsMarked firsts marks p → IsAtMost (row_at rows n) (row_at rows p)) n
        (λ p below other. at_most_through (row_at rows n) (row_at rows q) (row_at rows p) (less_is_at_most (row_at rows n) (row_at rows q) less) (so_far.2 p below other))
        (λ _. at_most_itself (row_at rows n)),
  )
  is_marked (Some q) new within so_far marked (inr (out, is)) = rw is (
    so_far.0,
    so_far.1,
    below_more (λ p. IsMarked firsts marks p → IsAtMost (row_at rows q) (row_at rows p)) n so_far.2 (λ _. at_most_since (row_at rows q) (row_at rows n) out),
  )

module _ (sides : Sides) (rows : List (List Value)) (firsts : List ℕ) (marks : List Bool) (n : ℕ) (all : n ≡ length rows) (width : HaveOneWidth rows) (are : AreFirsts sides.left rows firsts) (marked : AreMarks sides.right rows firsts n marks) where
  one_width : (p q : ℕ) → p < length rows → q < length rows → length (row_at rows p) ≡ length (row_at rows q)
  one_width p q p_below q_below = width (row_at rows p) (row_at rows q) (Contains-get_or rows p [] p_below) (Contains-get_or rows q [] q_below)

  -- a row with a partner is marked
  marked_of_clash : (p q : ℕ) → p < length rows → q < length rows → Clash sides (row_at rows p) (row_at rows q) → IsMarked firsts marks p
  marked_of_clash p q p_below q_below clash =
      let first : first_at firsts p ≡ first_at firsts q = are.same p q p_below q_below (same_left sides.left (row_at rows p) (row_at rows q) (one_width p q p_below q_below) clash.0) in
      elim (cases_Bool (mark_at marks (first_at firsts p))) [
        | inl is ↦ is
        | inr out ↦
            let a : AgreeAt sides.right (row_at rows p) (row_at rows (first_at firsts p)) = marked.agree p (omega (arith, p_below, all)) out in
            let b : AgreeAt sides.right (row_at rows q) (row_at rows (first_at firsts p)) =
            subst (λ (k : ℕ). AgreeAt sides.right (row_at rows q) (row_at rows k)) (sym first) (marked.agree q (omega (arith, q_below, all)) (ap (mark_at marks) (sym first) ∙ out)) in
            absurd (clash.1 (λ c on. a c on ∙ sym (b c on)))
      ]

  -- a marked row has a partner
  pub not_alone : (p : ℕ) → p < length rows → IsMarked firsts marks p → ((other : List Value) → Contains rows other → ¬ Clash sides (row_at rows p) other) → ⊥
  not_alone p below is none =
      let k : ℕ = first_at firsts p in
      let k_below : k < length rows = are.within p below in
      let w = marked.differ k is in
      let other_part : part_of sides.left (row_at rows p) ≡ part_of sides.left (row_at rows w.0) =
      are.alike p below ∙ sym (are.alike w.0 w.1 ∙ ap (λ q. part_of sides.left (row_at rows q)) w.2) in
      let first : ¬ (¬ AgreeAt sides.right (row_at rows p) (row_at rows k)) =
      λ out. none (row_at rows k) (Contains-get_or rows k [] k_below) (agree_left sides.left (row_at rows p) (row_at rows k) (one_width p k below k_below) (are.alike p below), out) in
      let second : ¬ (¬ AgreeAt sides.right (row_at rows p) (row_at rows w.0)) =
      λ out. none (row_at rows w.0) (Contains-get_or rows w.0 [] w.1) (agree_left sides.left (row_at rows p) (row_at rows w.0) (one_width p w.0 below w.1) other_part, out) in
      first (λ a. second (λ b. w.3 (λ c on. sym (b c on) ∙ a c on)))

  pub none_clash : IsLeastMarked rows firsts marks n None → (row other : List Value) → Contains rows row → Contains rows other → ¬ Clash sides row other
  none_clash none row other here there clash =
      let is_row : row_at rows here.0 ≡ row = get_or_default rows here.0 [] row here.1 ∙ here.2 in
      let is_other : row_at rows there.0 ≡ other = get_or_default rows there.0 [] other there.1 ∙ there.2 in
      let both : Clash sides (row_at rows here.0) (row_at rows there.0) = rw (is_row, is_other) clash in
      none here.0 (omega (arith, here.1, all)) (marked_of_clash here.0 there.0 here.1 there.1 both)

  pub is_least_pair : (p q : ℕ) → IsLeastMarked rows firsts marks n (Some p) → IsLeastClash sides rows (row_at rows p) (row_at rows q) → IsLeastPair sides rows (row_at rows p) (row_at rows q)
  is_least_pair p q least partner = record {
    stored = Contains-get_or rows p [] least.0;
    partner = partner;
    least = λ row other here there clash.
        let is_row : row_at rows here.0 ≡ row = get_or_default rows here.0 [] row here.1 ∙ here.2 in
        let is_other : row_at rows there.0 ≡ other = get_or_default rows there.0 [] other there.1 ∙ there.2 in
        let both : Clash sides (row_at rows here.0) (row_at rows there.0) = rw (is_row, is_other) clash in
        subst (IsAtMost (row_at rows p)) is_row (least.2 here.0 (omega (arith, here.1, all)) (marked_of_clash here.0 there.0 here.1 there.1 both));
  }
