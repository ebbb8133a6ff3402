-- Rows of lists that are taken from the end, one after another.
use Rattle.std.proofs.Common.{◌≡◌, ◌↔◌, ◌⊎◌, ◌≤◌, inl, inr, ⊎_elim, List, [], ◌∷◌, ◌++◌, length, Contains, Option, Some, All, refl, sym, ap, subst, ◌∙◌, arith}
use Rattle.std.specs.Prelude.{IsSome, IfSome}
use Rattle.std.proofs.lemmas.List.Elements.{Contains-append_left, Contains-append_right, Contains-append_cases, All-contains}
use Rattle.std.proofs.lemmas.Option.{same_Some}
use Rattle.std.specs.List.Sorted.{IsStrictlySortedBy}
use Rattle.su_base.specs.declared.values.Value.{Value}
use Rattle.su_base.specs.Value.{compare_lists}
use Rattle.su_base.proofs.Items.{Contains-cases, Contains-nil, All-members}
use Rattle.su_answer.specs.declared.found.Found.{Found}
use Rattle.su_rel.specs.MoreThan.{AreMoreThan}
use Rattle.su_answer.specs.inside.Executed.{IsInSome}

-- how far the lists are gone through: what is left, and the rows so far with those of the others
pub record AreGathered (lists left : List Found) (so_far all : List (List Value)) : Type 0 where
  pub rows : (h : List Value) → (Contains all h ⊎ IsInSome left h) ↔ (Contains so_far h ⊎ IsInSome lists h)
  pub some : (f : Found) → Contains lists f → Contains left f ⊎ IsSome f.rows
  pub of_lists : (f : Found) → Contains left f → Contains lists f

-- the rows are in order, and not too many
pub record AreInOrder (lists left : List Found) (so_far all : List (List Value)) : Type 0 where
  pub gathered : AreGathered lists left so_far all
  pub ascending : IsStrictlySortedBy compare_lists all
  pub few : length all ≤ 1000000

pub begun : (lists : List Found) (so_far : List (List Value)) → IsStrictlySortedBy compare_lists so_far → length so_far ≤ 1000000 → AreInOrder lists lists so_far so_far
begun lists so_far ascending few = record {
  gathered = record { rows = λ h. (λ s. s, λ s. s); some = λ f c. inl c; of_lists = λ f c. c };
  ascending = ascending;
  few = few;
}

-- a row of the lists in front, or of the last one
in_front : (left : List Found) (f : Found) (h : List Value) → IsInSome left h → IsInSome (left ++ f ∷ []) h
in_front left f h s = record { found = s.found; member = Contains-append_left left (f ∷ []) s.found s.member; rows = s.rows; is = s.is; has = s.has }

last_or_front : (left : List Found) (f : Found) (rows : List (List Value)) (h : List Value) → f.rows ≡ Some rows → IsInSome (left ++ f ∷ []) h → Contains rows h ⊎ IsInSome left h
last_or_front left f rows h is s =
    ⊎_elim
    (λ (l : Contains left s.found). inr (record { found = s.found; member = l; rows = s.rows; is = s.is; has = s.has }))
    (λ (r : Contains (f ∷ []) s.found).
    ⊎_elim
    (λ (e : f ≡ s.found). inl (subst (λ (xs : List (List Value)). Contains xs h) (same_Some s.rows rows (sym s.is ∙ ap (λ (g : Found). g.rows) (sym e) ∙ is)) s.has))
    (λ (n : Contains [] s.found). absurd (Contains-nil s.found n))
    (Contains-cases f [] s.found r))
    (Contains-append_cases left (f ∷ []) s.found s.member)

pub one_list : (lists before left : List Found) (f : Found) (so_far rows all more : List (List Value)) → AreGathered lists before so_far all → before ≡ left ++ f ∷ [] → f.rows ≡ Some rows → ((h : List Value) → Contains more h ↔ (Contains all h ⊎ Contains rows h)) → AreGathered lists left so_far more
one_list lists before left f so_far rows all more g e is m = record {
  rows = λ h. (
    λ s. ⊎_elim
        (λ (c : Contains more h).
        ⊎_elim
        (λ (a : Contains all h). (g.rows h).0 (inl a))
        (λ (r : Contains rows h). (g.rows h).0 (inr (subst (λ (ls : List Found). IsInSome ls h) (sym e) (record { found = f; member = Contains-append_right left (f ∷ []) f (0, omega arith, refl); rows = rows; is = is; has = r }))))
        ((m h).0 c))
        (λ (i : IsInSome left h). (g.rows h).0 (inr (subst (λ (ls : List Found). IsInSome ls h) (sym e) (in_front left f h i))))
        s,
    λ i. ⊎_elim
        (λ (a : Contains all h). inl ((m h).1 (inl a)))
        (λ (b : IsInSome before h).
        ⊎_elim
        (λ (r : Contains rows h). inl ((m h).1 (inr r)))
        (λ (l : IsInSome left h). inr l)
        (last_or_front left f rows h is (subst (λ (ls : List Found). IsInSome ls h) e b)))
        ((g.rows h).1 i),
  );
  some = λ k c.
      ⊎_elim
      (λ (b : Contains before k).
      ⊎_elim
      (λ (l : Contains left k). inl l)
      (λ (r : Contains (f ∷ []) k).
      ⊎_elim
      (λ (same : f ≡ k). inr (subst (λ (o : Option (List (List Value))). IsSome o) (sym is ∙ ap (λ (q : Found). q.rows) same) refl))
      (λ (n : Contains [] k). absurd (Contains-nil k n))
      (Contains-cases f [] k r))
      (Contains-append_cases left (f ∷ []) k (subst (λ (ls : List Found). Contains ls k) e b)))
      (λ (s : IsSome k.rows). inr s)
      (g.some k c);
  of_lists = λ k c. g.of_lists k (subst (λ (ls : List Found). Contains ls k) (sym e) (Contains-append_left left (f ∷ []) k c));
}

pub all_rows : (lists left : List Found) (so_far all : List (List Value)) → AreGathered lists left so_far all → left ≡ [] → (h : List Value) → Contains all h ↔ (Contains so_far h ⊎ IsInSome lists h)
all_rows lists left so_far all g e h = (
  λ c. (g.rows h).0 (inl c),
  λ i. ⊎_elim
      (λ (c : Contains all h). c)
      (λ (s : IsInSome left h). absurd (Contains-nil s.found (subst (λ (ls : List Found). Contains ls s.found) e s.member)))
      ((g.rows h).1 i),
)

pub all_some : (lists left : List Found) (so_far all : List (List Value)) → AreGathered lists left so_far all → left ≡ [] → All (λ (f : Found). IsSome f.rows) lists
all_some lists left so_far all g e = All-members (λ (f : Found). IsSome f.rows) lists (λ f c.
    ⊎_elim
    (λ (l : Contains left f). absurd (Contains-nil f (subst (λ (ls : List Found). Contains ls f) e l)))
    (λ (s : IsSome f.rows). s)
    (g.some f c))

pub last_in : (lists before left : List Found) (f : Found) (so_far all : List (List Value)) → AreGathered lists before so_far all → before ≡ left ++ f ∷ [] → Contains lists f
last_in lists before left f so_far all g e = g.of_lists f (subst (λ (ls : List Found). Contains ls f) (sym e) (Contains-append_right left (f ∷ []) f (0, omega arith, refl)))

-- the rows of the last list and those so far are too many
pub too_many : (lists before left : List Found) (f : Found) (so_far rows all : List (List Value)) → AreGathered lists before so_far all → before ≡ left ++ f ∷ [] → f.rows ≡ Some rows → AreMoreThan 1000000 (λ h. Contains all h ⊎ Contains rows h) → AreMoreThan 1000000 (λ h. Contains so_far h ⊎ IsInSome lists h)
too_many lists before left f so_far rows all g e is many = record {
  member = many.member;
  each = λ i l.
      ⊎_elim
      (λ (a : Contains all (many.member i)). (g.rows (many.member i)).0 (inl a))
      (λ (r : Contains rows (many.member i)). (g.rows (many.member i)).0 (inr (subst (λ (ls : List Found). IsInSome ls (many.member i)) (sym e) (record { found = f; member = Contains-append_right left (f ∷ []) f (0, omega arith, refl); rows = rows; is = is; has = r }))))
      (many.each i l);
  differ = many.differ;
}

-- a list of rows ascends where all do
pub rows_ascend : (lists : List Found) (f : Found) (rows : List (List Value)) → All (λ (g : Found). IfSome g.rows (IsStrictlySortedBy compare_lists)) lists → Contains lists f → f.rows ≡ Some rows → IsStrictlySortedBy compare_lists rows
rows_ascend lists f rows all has is = subst (λ (o : Option (List (List Value))). IfSome o (IsStrictlySortedBy compare_lists)) is (All-contains (λ (g : Found). IfSome g.rows (IsStrictlySortedBy compare_lists)) lists f all has)
