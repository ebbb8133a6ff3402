-- Two lists that ascend, merged from the end.
use Rattle.std.proofs.Common.{◌≡◌, ◌↔◌, ◌⊎◌, inl, inr, ⊎_elim, List, [], ◌∷◌, ◌++◌, length, Contains, append-nil, refl, sym, ap, ◌∙◌, subst, arith}
use Rattle.std.specs.List.{AllByRecursion}
use Rattle.std.specs.List.Sorted.{IsStrictlySortedBy}
use Rattle.std.specs.declared.cmp.Ordering.TheVariants.{Less}
use Rattle.std.proofs.lemmas.List.{append_assoc}
use Rattle.std.proofs.lemmas.List.Elements.{Contains-append_left, Contains-append_right, Contains-append_cases}
use Rattle.std.proofs.lemmas.Map.Keys.{sorted_head, sorted_tail}
use Rattle.su_base.specs.declared.values.Value.{Value}
use Rattle.su_base.specs.Value.{compare_lists}
use Rattle.su_base.proofs.Items.{Contains-cases, Contains-later, Contains-nil, AllByRecursion-members}
use Rattle.su_rel.specs.MoreThan.{AreMoreThan}
use Rattle.su_rel.proofs.MoreThan.{AreMoreThan-ascending}
use Rattle.su_index.proofs.Runs.{sorted_cons, sorted-append_left, sorted-append_right}
use Rattle.su_answer.specs.inside.Merged.{IsTakenFrom, IsGreatestOf}

-- ---- rows in order

all_with : (P : List Value → Type 0) (xs ys : List (List Value)) (y : List Value) → AllByRecursion P (xs ++ ys) → P y → AllByRecursion P (xs ++ y ∷ ys)
all_with P [] ys y a p = (p, a)
all_with P (x ∷ xs) ys y a p = (a.0, all_with P xs ys y a.1 p)

-- a row between those before it and those behind it
sorted_between : (xs ys : List (List Value)) (y : List Value) → IsStrictlySortedBy compare_lists (xs ++ ys) → AllByRecursion (λ x. compare_lists x y ≡ Less) xs → IsStrictlySortedBy compare_lists (y ∷ ys) → IsStrictlySortedBy compare_lists (xs ++ y ∷ ys)
sorted_between [] ys y s a t = t
sorted_between (x ∷ xs) ys y s a t =
    sorted_cons compare_lists x (xs ++ y ∷ ys) (all_with (λ z. compare_lists x z ≡ Less) xs ys y (sorted_head compare_lists x (xs ++ ys) s) a.0) (sorted_between xs ys y (sorted_tail compare_lists x (xs ++ ys) s) a.1 t)

-- ---- one row is taken

module _ (before after : List (List Value)) (row : List Value) (taken : IsTakenFrom before after row) where
  still_there : (h : List Value) → Contains after h → Contains before h
  still_there h c =
      ⊎_elim
      (λ (e : before ≡ after ++ row ∷ []). subst (λ (xs : List (List Value)). Contains xs h) (sym e) (Contains-append_left after (row ∷ []) h c))
      (λ (s : (after ≡ before) × ((r : List Value) → Contains before r → compare_lists r row ≡ Less)). subst (λ (xs : List (List Value)). Contains xs h) s.0 c)
      taken

  taken_or_there : (h : List Value) → Contains before h → (row ≡ h) ⊎ Contains after h
  taken_or_there h c =
      ⊎_elim
      (λ (e : before ≡ after ++ row ∷ []).
      ⊎_elim
      (λ (l : Contains after h). inr l)
      (λ (r : Contains (row ∷ []) h).
      ⊎_elim
      (λ (same : row ≡ h). inl same)
      (λ (none : Contains [] h). absurd (Contains-nil h none))
      (Contains-cases row [] h r))
      (Contains-append_cases after (row ∷ []) h (subst (λ (xs : List (List Value)). Contains xs h) e c)))
      (λ (s : (after ≡ before) × ((r : List Value) → Contains before r → compare_lists r row ≡ Less)). inr (subst (λ (xs : List (List Value)). Contains xs h) (sym s.0) c))
      taken

  ascends_with : (all : List (List Value)) → IsStrictlySortedBy compare_lists (before ++ all) → IsStrictlySortedBy compare_lists (row ∷ all) → IsStrictlySortedBy compare_lists (after ++ row ∷ all)
  ascends_with all s t =
      ⊎_elim
      (λ (e : before ≡ after ++ row ∷ []). subst (λ (xs : List (List Value)). IsStrictlySortedBy compare_lists xs) (ap (λ (xs : List (List Value)). xs ++ all) e ∙ append_assoc after (row ∷ []) all) s)
      (λ (k : (after ≡ before) × ((r : List Value) → Contains before r → compare_lists r row ≡ Less)).
      subst (λ (xs : List (List Value)). IsStrictlySortedBy compare_lists (xs ++ row ∷ all)) (sym k.0) (sorted_between before all row s (AllByRecursion-members (λ x. compare_lists x row ≡ Less) before k.1) t))
      taken

last_first : (before after all : List (List Value)) (row : List Value) → before ≡ after ++ row ∷ [] → IsStrictlySortedBy compare_lists (before ++ all) → IsStrictlySortedBy compare_lists (row ∷ all)
last_first before after all row e s = sorted-append_right compare_lists after (row ∷ all) (subst (λ (xs : List (List Value)). IsStrictlySortedBy compare_lists xs) (ap (λ (xs : List (List Value)). xs ++ all) e ∙ append_assoc after (row ∷ []) all) s)

-- ---- all rows

-- what is left of two lists, and the rows that were taken from their ends
pub record AreMerged (rows more left right all : List (List Value)) : Type 0 where
  pub members : (h : List Value) → ((Contains left h ⊎ Contains right h) ⊎ Contains all h) ↔ (Contains rows h ⊎ Contains more h)
  pub left_ascends : IsStrictlySortedBy compare_lists (left ++ all)
  pub right_ascends : IsStrictlySortedBy compare_lists (right ++ all)

pub none_taken : (rows more : List (List Value)) → IsStrictlySortedBy compare_lists rows → IsStrictlySortedBy compare_lists more → AreMerged rows more rows more []
none_taken rows more s t = record {
  members = λ h. (λ c. ⊎_elim (λ (b : Contains rows h ⊎ Contains more h). b) (λ (n : Contains [] h). absurd (Contains-nil h n)) c, λ b. inl b);
  left_ascends = subst (λ (xs : List (List Value)). IsStrictlySortedBy compare_lists xs) (sym (append-nil rows)) s;
  right_ascends = subst (λ (xs : List (List Value)). IsStrictlySortedBy compare_lists xs) (sym (append-nil more)) t;
}

module _ (rows more left right all : List (List Value)) (m : AreMerged rows more left right all) where
  pub left_sorted : IsStrictlySortedBy compare_lists left
  left_sorted = sorted-append_left compare_lists left all m.left_ascends

  pub right_sorted : IsStrictlySortedBy compare_lists right
  right_sorted = sorted-append_left compare_lists right all m.right_ascends

  pub all_taken : left ≡ [] → right ≡ [] → ((h : List Value) → Contains all h ↔ (Contains rows h ⊎ Contains more h)) × IsStrictlySortedBy compare_lists all
  all_taken e f = (
    λ h. (
      λ c. (m.members h).0 (inr c),
      λ b. ⊎_elim
          (λ (s : Contains left h ⊎ Contains right h).
          ⊎_elim
          (λ (c : Contains left h). absurd (Contains-nil h (subst (λ (xs : List (List Value)). Contains xs h) e c)))
          (λ (c : Contains right h). absurd (Contains-nil h (subst (λ (xs : List (List Value)). Contains xs h) f c)))
          s)
          (λ (c : Contains all h). c)
          ((m.members h).1 b),
    ),
    subst (λ (xs : List (List Value)). IsStrictlySortedBy compare_lists (xs ++ all)) e m.left_ascends,
  )

  module _ (left_after right_after : List (List Value)) (row : List Value) (g : IsGreatestOf left right left_after right_after row) where
    row_of_either : Contains left row ⊎ Contains right row
    row_of_either =
        ⊎_elim
        (λ (e : left ≡ left_after ++ row ∷ []). inl (subst (λ (xs : List (List Value)). Contains xs row) (sym e) (Contains-append_right left_after (row ∷ []) row (0, omega arith, refl))))
        (λ (e : right ≡ right_after ++ row ∷ []). inr (subst (λ (xs : List (List Value)). Contains xs row) (sym e) (Contains-append_right right_after (row ∷ []) row (0, omega arith, refl))))
        g.taken

    row_ascends : IsStrictlySortedBy compare_lists (row ∷ all)
    row_ascends =
        ⊎_elim
        (λ (e : left ≡ left_after ++ row ∷ []). last_first left left_after all row e m.left_ascends)
        (λ (e : right ≡ right_after ++ row ∷ []). last_first right right_after all row e m.right_ascends)
        g.taken

    of_rows : (h : List Value) → Contains (row ∷ all) h → Contains rows h ⊎ Contains more h
    of_rows h c =
        ⊎_elim
        (λ (e : row ≡ h). subst (λ (x : List Value). Contains rows x ⊎ Contains more x) e ((m.members row).0 (inl row_of_either)))
        (λ (d : Contains all h). (m.members h).0 (inr d))
        (Contains-cases row all h c)

    pub one_taken : AreMerged rows more left_after right_after (row ∷ all)
    one_taken = record {
      members = λ h. (
        λ c. ⊎_elim
            (λ (s : Contains left_after h ⊎ Contains right_after h).
            ⊎_elim
            (λ (d : Contains left_after h). (m.members h).0 (inl (inl (still_there left left_after row g.of_one h d))))
            (λ (d : Contains right_after h). (m.members h).0 (inl (inr (still_there right right_after row g.of_other h d))))
            s)
            (λ (d : Contains (row ∷ all) h). of_rows h d)
            c,
        λ b. ⊎_elim
            (λ (s : Contains left h ⊎ Contains right h).
            ⊎_elim
            (λ (d : Contains left h).
            ⊎_elim
            (λ (e : row ≡ h). inr (0, omega arith, e))
            (λ (k : Contains left_after h). inl (inl k))
            (taken_or_there left left_after row g.of_one h d))
            (λ (d : Contains right h).
            ⊎_elim
            (λ (e : row ≡ h). inr (0, omega arith, e))
            (λ (k : Contains right_after h). inl (inr k))
            (taken_or_there right right_after row g.of_other h d))
            s)
            (λ (d : Contains all h). inr (Contains-later row all h d))
            ((m.members h).1 b),
      );
      left_ascends = ascends_with left left_after row g.of_one all m.left_ascends row_ascends;
      right_ascends = ascends_with right right_after row g.of_other all m.right_ascends row_ascends;
    }

    -- one row more than there may be
    pub one_too_many : length all ≡ 1000000 → AreMoreThan 1000000 (λ h. Contains rows h ⊎ Contains more h)
    one_too_many full = AreMoreThan-ascending 1000000 (λ h. Contains rows h ⊎ Contains more h) (row ∷ all) row_ascends of_rows (omega (arith, full))
