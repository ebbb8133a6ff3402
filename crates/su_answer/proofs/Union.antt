-- The answers of the kept terms, one after another, are the answers of the query.
use Rattle.std.proofs.Common.{◌≡◌, ◌↔◌, ◌⊎◌, inl, inr, ⊎_elim, ℕ, ◌+◌, ◌<◌, ◌≤◌, List, [], ◌∷◌, ◌++◌, take, drop, length, Contains, All, Option, Some, None, refl, sym, ap, subst, ◌∙◌, arith}
use Rattle.std.specs.Prelude.{MatchOption, IfSome, IsSome}
use Rattle.std.specs.List.{AllZip}
use Rattle.std.specs.List.Sorted.{IsStrictlySortedBy}
use Rattle.std.proofs.lemmas.Bool.{false≢true}
use Rattle.std.proofs.lemmas.List.Elements.{All-contains, Contains-append_left, Contains-append_right, Contains-append_cases}
use Rattle.std.proofs.lemmas.List.{length-append, take-append-drop}
use Rattle.su_base.specs.declared.values.Value.{Value}
use Rattle.su_base.specs.Value.{compare_lists}
use Rattle.su_base.proofs.Items.{Contains-later, Contains-nil, All-members}
use Rattle.su_rel.specs.Stored.{Stored}
use Rattle.su_tableau.specs.Tableaux.{IsValid}
use Rattle.su_exec.specs.declared.tasks.Task.{Task}
use Rattle.su_exec.specs.Tasks.{IsTask}
use Rattle.su_exec.specs.Outputs.{IsOutput, AreOutputs}
use Rattle.su_state.specs.DatabaseValue.{DatabaseValue, IsWellKept}
use Rattle.su_min.specs.Kept.{Minimised}
use Rattle.su_min.specs.Reduction.{term_at, IsReduced}
use Rattle.su_answer.specs.declared.found.Found.{Found}
use Rattle.su_answer.specs.declared.preparing.Prepared.{Prepared}
use Rattle.su_answer.specs.Joined.{IsTaskOf}
use Rattle.su_answer.specs.Answers.{IsTermAnswer, IsAnswer, AreAnswers}
use Rattle.su_rel.specs.MoreThan.{AreMoreThan}
use Rattle.su_answer.specs.inside.Executed.{Join, IsFound, AreTermAnswers, IsFoundFor, IsInSome, ArePastLimit}
use Rattle.su_answer.proofs.Joined.{outputs_are_answers}
use Rattle.su_answer.proofs.PairedLists.{zip_first, zip_second}

-- ---- what a job gives

found_by : (db : DatabaseValue) (m : Minimised) (task : Task) → IsWellKept db → IsValid m.tableau → IsTask db.tables task → IsTaskOf db.schema m.tableau m.mask task
    → (o : Option (List (List Value))) → MatchOption o (AreMoreThan 1000000 (IsOutput db.tables task)) (AreOutputs db.tables task) → MatchOption o (AreMoreThan 1000000 (IsTermAnswer db m)) (AreTermAnswers db m)
found_by db m task kept valid fits is None more = record {
  member = more.member;
  each = λ i l. (outputs_are_answers db m.tableau m.mask task kept valid fits is (more.member i)).0 (more.each i l);
  differ = more.differ;
}
found_by db m task kept valid fits is (Some rows) are = record {
  exact = λ h.
      let o = outputs_are_answers db m.tableau m.mask task kept valid fits is h in
      (λ c. o.0 ((are.exact h).0 c), λ a. (are.exact h).1 (o.1 a));
  ascending = are.ascending;
}

-- the join is that of the kept rows
pub record IsTermJoin (db : DatabaseValue) (m : Minimised) (join : Join) : Type 0 where
  pub tables : join.tables ≡ db.tables
  pub task : IsTaskOf db.schema m.tableau m.mask join.task
  pub fits : IsTask db.tables join.task

pub found_for : (db : DatabaseValue) (m : Minimised) (join : Join) (found : Found) → IsWellKept db → IsValid m.tableau → IsTermJoin db m join → IsFound join found → IsFoundFor db m found
found_for db m join found kept valid is f =
    found_by db m join.task kept valid is.fits is.task found.rows
    (subst (λ (tables : List Stored). MatchOption found.rows (AreMoreThan 1000000 (IsOutput tables join.task)) (AreOutputs tables join.task)) is.tables f)

-- ---- all lists together

some_rows : (db : DatabaseValue) (m : Minimised) (o : Option (List (List Value))) → IsSome o → MatchOption o (AreMoreThan 1000000 (IsTermAnswer db m)) (AreTermAnswers db m) → (rows : List (List Value)) × (o ≡ Some rows) × AreTermAnswers db m rows
some_rows db m None some are = absurd (false≢true some)
some_rows db m (Some rows) some are = (rows, refl, are)

ascends : (db : DatabaseValue) (m : Minimised) (o : Option (List (List Value))) → MatchOption o (AreMoreThan 1000000 (IsTermAnswer db m)) (AreTermAnswers db m) → IfSome o (IsStrictlySortedBy compare_lists)
ascends db m None are = tt
ascends db m (Some rows) are = are.ascending

module _ (db : DatabaseValue) (minimals : List Minimised) (kept : List ℕ) (lists : List Found) (found : AllZip (λ k f. IsFoundFor db (term_at minimals k) f) kept lists) where
  -- an answer of one of the terms
  pub record OfSome (h : List Value) : Type 0 where
    pub term : ℕ
    pub is_kept : Contains kept term
    pub answer : IsTermAnswer db (term_at minimals term) h

  pub some_answers : (h : List Value) → IsInSome lists h → OfSome h
  some_answers h s =
      let w = zip_second (λ k f. IsFoundFor db (term_at minimals k) f) kept lists s.found found s.member in
      let are : AreTermAnswers db (term_at minimals w.0) s.rows = subst (λ (o : Option (List (List Value))). MatchOption o (AreMoreThan 1000000 (IsTermAnswer db (term_at minimals w.0))) (AreTermAnswers db (term_at minimals w.0))) s.is w.2 in
      record { term = w.0; is_kept = w.1; answer = (are.exact h).0 s.has }

  pub answers_some : All (λ (f : Found). IsSome f.rows) lists → (h : List Value) → OfSome h → IsInSome lists h
  answers_some all h o =
      let w = zip_first (λ k f. IsFoundFor db (term_at minimals k) f) kept lists o.term found o.is_kept in
      let r = some_rows db (term_at minimals o.term) w.0.rows (All-contains (λ (f : Found). IsSome f.rows) lists w.0 all w.1) w.2 in
      record { found = w.0; member = w.1; rows = r.0; is = r.1; has = (r.2.exact h).1 o.answer }

  -- a term alone has more answers than there may be
  pub one_more : (f : Found) → Contains lists f → f.rows ≡ None → (P : List Value → Type 0) → ((k : ℕ) (h : List Value) → Contains kept k → IsTermAnswer db (term_at minimals k) h → P h) → AreMoreThan 1000000 P
  one_more f member none P all =
      let w = zip_second (λ k f. IsFoundFor db (term_at minimals k) f) kept lists f found member in
      let more : AreMoreThan 1000000 (IsTermAnswer db (term_at minimals w.0)) = subst (λ (o : Option (List (List Value))). MatchOption o (AreMoreThan 1000000 (IsTermAnswer db (term_at minimals w.0))) (AreTermAnswers db (term_at minimals w.0))) none w.2 in
      record { member = more.member; each = λ i l. all w.0 (more.member i) w.1 (more.each i l); differ = more.differ }

-- the lists of terms ascend
pub lists_ascend : (db : DatabaseValue) (minimals : List Minimised) (kept : List ℕ) (lists : List Found) → AllZip (λ k f. IsFoundFor db (term_at minimals k) f) kept lists → All (λ (f : Found). IfSome f.rows (IsStrictlySortedBy compare_lists)) lists
lists_ascend db minimals kept lists found =
    All-members (λ (f : Found). IfSome f.rows (IsStrictlySortedBy compare_lists)) lists (λ f has.
    let w = zip_second (λ k g. IsFoundFor db (term_at minimals k) g) kept lists f found has in
    ascends db (term_at minimals w.0) f.rows w.2)

-- ---- jobs and what they give, place by place

pub zip_through : {A B C : Type 0} (R : A → B → Type 0) (S : B → C → Type 0) (T : A → C → Type 0) (xs : List A) (ys : List B) (zs : List C) → ((x : A) (y : B) (z : C) → Contains xs x → R x y → S y z → T x z) → AllZip R xs ys → AllZip S ys zs → AllZip T xs zs
zip_through R S T [] [] [] f r s = tt
zip_through R S T [] [] (z ∷ zs) f r s = absurd s
zip_through R S T [] (y ∷ ys) zs f r s = absurd r
zip_through R S T (x ∷ xs) [] zs f r s = absurd r
zip_through R S T (x ∷ xs) (y ∷ ys) [] f r s = absurd s
zip_through R S T (x ∷ xs) (y ∷ ys) (z ∷ zs) f r s = (f x y z (0, omega arith, refl) r.0 s.0, zip_through R S T xs ys zs (λ a b c m. f a b c (Contains-later x xs a m)) r.1 s.1)

-- ---- terms, some at a time

pub kept_low : (p : Prepared) → IsReduced p.minimals p.reduced → All (λ k. k < length p.minimals) p.reduced.kept
kept_low p reduced = All-members (λ k. k < length p.minimals) p.reduced.kept (λ k c. ((reduced.kept.members k).0 c).0)

-- an answer of one of these terms
pub record OfTerms (db : DatabaseValue) (minimals : List Minimised) (ks : List ℕ) (h : List Value) : Type 0 where
  pub term : ℕ
  pub member : Contains ks term
  pub answer : IsTermAnswer db (term_at minimals term) h

of_later : (db : DatabaseValue) (minimals : List Minimised) (ks js : List ℕ) (h : List Value) → ((k : ℕ) → Contains ks k → Contains js k) → OfTerms db minimals ks h → OfTerms db minimals js h
of_later db minimals ks js h f o = record { term = o.term; member = f o.term o.member; answer = o.answer }

-- how far the terms are gone through: which are left, and the rows of the others
pub record AreUnited (db : DatabaseValue) (minimals : List Minimised) (kept left : List ℕ) (rows : List (List Value)) : Type 0 where
  pub exact : (h : List Value) → (Contains rows h ⊎ OfTerms db minimals left h) ↔ OfTerms db minimals kept h
  pub ascending : IsStrictlySortedBy compare_lists rows
  pub few : length rows ≤ 1000000
  pub of_kept : (k : ℕ) → Contains left k → Contains kept k
  pub shorter : length left ≤ length kept

no_rows : IsStrictlySortedBy compare_lists []
unfolding IsStrictlySortedBy
no_rows = tt

pub all_left : (db : DatabaseValue) (minimals : List Minimised) (kept : List ℕ) → AreUnited db minimals kept kept []
all_left db minimals kept = record {
  exact = λ h. (λ s. ⊎_elim (λ (c : Contains [] h). absurd (Contains-nil h c)) (λ (o : OfTerms db minimals kept h). o) s, λ o. inr o);
  ascending = no_rows;
  few = omega arith;
  of_kept = λ k c. c;
  shorter = omega arith;
}

pub wave_low : (db : DatabaseValue) (minimals : List Minimised) (kept left now later : List ℕ) (rows : List (List Value)) (n : ℕ) → AreUnited db minimals kept left rows → left ≡ now ++ later → All (λ k. k < n) kept → All (λ k. k < n) now
wave_low db minimals kept left now later rows n before parts low =
    All-members (λ k. k < n) now (λ k c. All-contains (λ k. k < n) kept k low (before.of_kept k (subst (λ ks. Contains ks k) (sym parts) (Contains-append_left now later k c))))

pub halves : (m : ℕ) (left now later : List ℕ) → now ≡ take m left → later ≡ drop m left → left ≡ now ++ later
halves m left now later front back = sym (subst (λ xs. xs ++ later ≡ left) (sym front) (subst (λ ys. take m left ++ ys ≡ left) (sym back) (take-append-drop m left)))

module _ (db : DatabaseValue) (minimals : List Minimised) (kept left now later : List ℕ) (rows : List (List Value)) (lists : List Found) (before : AreUnited db minimals kept left rows) (parts : left ≡ now ++ later) (found : AllZip (λ k f. IsFoundFor db (term_at minimals k) f) now lists) where
  now_left : (k : ℕ) → Contains now k → Contains left k
  now_left k c = subst (λ ks. Contains ks k) (sym parts) (Contains-append_left now later k c)

  later_left : (k : ℕ) → Contains later k → Contains left k
  later_left k c = subst (λ ks. Contains ks k) (sym parts) (Contains-append_right now later k c)

  -- what there is so far, and what the lists have, are answers
  of_either : (h : List Value) → Contains rows h ⊎ IsInSome lists h → OfTerms db minimals kept h
  of_either h s = ⊎_elim
      (λ (c : Contains rows h). (before.exact h).0 (inl c))
      (λ (i : IsInSome lists h). let o = some_answers db minimals now lists found h i in (before.exact h).0 (inr (record { term = o.term; member = now_left o.term o.is_kept; answer = o.answer })))
      s

  pub wave_united : (more : List (List Value)) → ((h : List Value) → Contains more h ↔ (Contains rows h ⊎ IsInSome lists h)) → All (λ (f : Found). IsSome f.rows) lists → IsStrictlySortedBy compare_lists more → length more ≤ 1000000 → AreUnited db minimals kept later more
  wave_united more are all ascending few = record {
    exact = λ h. (
      λ s. ⊎_elim
          (λ (c : Contains more h). of_either h ((are h).0 c))
          (λ (o : OfTerms db minimals later h). (before.exact h).0 (inr (of_later db minimals later left h later_left o)))
          s,
      λ o. ⊎_elim
          (λ (c : Contains rows h). inl ((are h).1 (inl c)))
          (λ (l : OfTerms db minimals left h).
          ⊎_elim
          (λ (n : Contains now l.term). inl ((are h).1 (inr (answers_some db minimals now lists found all h (record { term = l.term; is_kept = n; answer = l.answer })))))
          (λ (n : Contains later l.term). inr (record { term = l.term; member = n; answer = l.answer }))
          (Contains-append_cases now later l.term (subst (λ ks. Contains ks l.term) parts l.member)))
          ((before.exact h).1 o),
    );
    ascending = ascending;
    few = few;
    of_kept = λ k c. before.of_kept k (later_left k c);
    shorter =
        let e : length left ≡ length now + length later = ap (λ (ks : List ℕ). length ks) parts ∙ length-append now later in
        let s = before.shorter in
        omega arith;
  }

  -- a list is missing, or there are too many rows
  pub wave_more : ArePastLimit rows lists → AreMoreThan 1000000 (OfTerms db minimals kept)
  wave_more s = ⊎_elim
      (λ (m : (f : Found) × Contains lists f × (f.rows ≡ None)). one_more db minimals now lists found m.0 m.1 m.2 (OfTerms db minimals kept) (λ k h c a. (before.exact h).0 (inr (record { term = k; member = now_left k c; answer = a }))))
      (λ (m : AreMoreThan 1000000 (λ h. Contains rows h ⊎ IsInSome lists h)). record { member = m.member; each = λ i l. of_either (m.member i) (m.each i l); differ = m.differ })
      s

-- ---- the answers of a prepared query

pub more_answers : (db : DatabaseValue) (p : Prepared) → AreMoreThan 1000000 (OfTerms db p.minimals p.reduced.kept) → AreMoreThan 1000000 (IsAnswer db p)
more_answers db p m = record { member = m.member; each = λ i l. let o = m.each i l in record { term = o.term; kept = o.member; answer = o.answer }; differ = m.differ }

pub are_answers : (db : DatabaseValue) (p : Prepared) (left : List ℕ) (rows : List (List Value)) → AreUnited db p.minimals p.reduced.kept left rows → left ≡ [] → AreAnswers db p rows
are_answers db p left rows united none = record {
  exact = λ h. (
    λ c. let o = (united.exact h).0 (inl c) in record { term = o.term; kept = o.member; answer = o.answer },
    λ a. ⊎_elim
        (λ (c : Contains rows h). c)
        (λ (o : OfTerms db p.minimals left h). absurd (Contains-nil o.term (subst (λ ks. Contains ks o.term) none o.member)))
        ((united.exact h).1 (record { term = a.term; member = a.kept; answer = a.answer })),
  );
  ascending = united.ascending;
}
