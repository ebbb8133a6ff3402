-- The rows of a task: attributes in ascending order, and a source for each object.
use Rattle.std.proofs.Common.{◌≡◌, ◌≢◌, ⊎_elim, ℕ, suc, ◌+◌, ◌<◌, ◌≤◌, false, List, [], ◌∷◌, ◌++◌, get_or, Contains, All, refl, sym, ap, ◌∙◌, subst, arith}
use Rattle.std.specs.Prelude.{IsTrue}
use Rattle.std.specs.Int.{bit_at}
use Rattle.std.specs.List.{AllZip, range_with_len}
use Rattle.std.specs.Ordering.{nat_cmp}
use Rattle.std.specs.FinSet.{FinSet, contains, is_subset, is_subset-contains}
use Rattle.std.proofs.lemmas.Cmp.{nat_cmp_total}
use Rattle.std.proofs.lemmas.Bool.{cases_lt, true≢false}
use Rattle.std.proofs.lemmas.List.Elements.{Contains-append_left, Contains-append_right, Contains-append_cases, Contains-get_or}
use Rattle.std.proofs.lemmas.Slice.Zip.{all_zipped_more}
use Rattle.su_base.proofs.Items.{Contains-cases, Contains-nil, Contains-filter_source, Contains-range_below}
use Rattle.su_tableau.specs.Tableaux.{Tab}
use Rattle.su_schema.specs.SchemaValue.{SchemaValue}
use Rattle.su_map.specs.Lists.{numbers_of}
use Rattle.su_map.proofs.Ranks.{numbers-more, numbers-none}
use Rattle.su_exec.specs.declared.tasks.Source.{Source}
use Rattle.su_exec.specs.declared.tasks.TaskRow.{TaskRow}
use Rattle.su_schema.specs.SetMembers.{numbers_in}
use Rattle.su_answer.specs.Joined.{IsSourceOf, IsTaskRowOf}
use Rattle.su_answer.specs.inside.Joined.{AreSourcesOf}

pub numbers_low : (s : FinSet nat_cmp) (n : ℕ) → All (λ a. a < n) (numbers_in s n)
numbers_low s n k d l = Contains-range_below n (get_or (numbers_in s n) k d) (Contains-filter_source (contains s) (range_with_len 0 n) (get_or (numbers_in s n) k d) (Contains-get_or (numbers_in s n) k d l)).0

-- an object has the columns that are within its own
pub columns_owned : (s own : FinSet nat_cmp) (n : ℕ) → IsTrue (is_subset s own) → All (λ a. IsTrue (contains own a)) (numbers_in s n)
columns_owned s own n within k d l =
    let c = get_or (numbers_in s n) k d in
    is_subset-contains nat_cmp_total s own within c (Contains-filter_source (contains s) (range_with_len 0 n) c (Contains-get_or (numbers_in s n) k d l)).1

module _ (schema : SchemaValue) (attributes : List ℕ) (objects : FinSet nat_cmp) (n : ℕ) where
  pub sources_more : (before after : List Source) (s : Source) → AreSourcesOf schema attributes n objects before → IsTrue (contains objects n) → IsSourceOf schema attributes n s → after ≡ before ++ s ∷ [] → AreSourcesOf schema attributes (n + 1) objects after
  sources_more before after s are there is e = record {
    from = λ x c.
        ⊎_elim
        (λ (l : Contains before x). let w = are.from x l in (w.0, omega (arith, w.1), w.2, w.3))
        (λ (r : Contains (s ∷ []) x).
        ⊎_elim
        (λ (h : s ≡ x). (n, omega arith, there, subst (IsSourceOf schema attributes n) h is))
        (λ (h : Contains [] x). absurd (Contains-nil x h))
        (Contains-cases s [] x r))
        (Contains-append_cases before (s ∷ []) x (subst (λ (xs : List Source). Contains xs x) e c));
    all = λ o low has.
        ⊎_elim
        (λ (l : o < n). let w = are.all o l has in (w.0, subst (λ (xs : List Source). Contains xs w.0) (sym e) (Contains-append_left before (s ∷ []) w.0 w.1), w.2))
        (λ (g : n ≤ o).
        let same : n ≡ o = omega arith in
        (s, subst (λ (xs : List Source). Contains xs s) (sym e) (Contains-append_right before (s ∷ []) s (0, omega arith, refl)), subst (λ k. IsSourceOf schema attributes k s) same is))
        (cases_lt o n);
  }

  pub sources_same : (before after : List Source) → AreSourcesOf schema attributes n objects before → contains objects n ≡ false → after ≡ before → AreSourcesOf schema attributes (n + 1) objects after
  sources_same before after are out e = record {
    from = λ x c. let w = are.from x (subst (λ (xs : List Source). Contains xs x) e c) in (w.0, omega (arith, w.1), w.2, w.3);
    all = λ o low has.
        ⊎_elim
        (λ (l : o < n). let w = are.all o l has in (w.0, subst (λ (xs : List Source). Contains xs w.0) (sym e) w.1, w.2))
        (λ (g : n ≤ o). let same : o ≡ n = omega arith in absurd (true≢false (sym has ∙ ap (contains objects) same ∙ out)))
        (cases_lt o n);
  }

-- ---- the numbers of a set, one more

pub numbers_next : (m i : ℕ) → bit_at m i ≡ 1 → numbers_of m (i + 1) ≡ numbers_of m i ++ i ∷ []
numbers_next m i set = ap (numbers_of m) (let q : i + 1 ≡ suc i = omega arith in q) ∙ numbers-more m i set

pub numbers_stay : (m i : ℕ) → (bit_at m i ≡ 1 → ⊥) → numbers_of m (i + 1) ≡ numbers_of m i
numbers_stay m i out = ap (numbers_of m) (let q : i + 1 ≡ suc i = omega arith in q) ∙ numbers-none m i out

module _ (schema : SchemaValue) (t : Tab) (m i : ℕ) where
  pub rows_more : (rows next : List TaskRow) (r : TaskRow) → AllZip (IsTaskRowOf schema t m) (numbers_of m i) rows → bit_at m i ≡ 1 → IsTaskRowOf schema t m i r → next ≡ rows ++ r ∷ [] → AllZip (IsTaskRowOf schema t m) (numbers_of m (i + 1)) next
  rows_more rows next r all set is e =
      subst (λ (ns : List ℕ). AllZip (IsTaskRowOf schema t m) ns next) (sym (numbers_next m i set))
      (subst (λ (xs : List TaskRow). AllZip (IsTaskRowOf schema t m) (numbers_of m i ++ i ∷ []) xs) (sym e) (all_zipped_more (IsTaskRowOf schema t m) (numbers_of m i) rows i r all is))

  pub rows_same : (rows next : List TaskRow) → AllZip (IsTaskRowOf schema t m) (numbers_of m i) rows → (bit_at m i ≡ 1 → ⊥) → next ≡ rows → AllZip (IsTaskRowOf schema t m) (numbers_of m (i + 1)) next
  rows_same rows next all out e =
      subst (λ (ns : List ℕ). AllZip (IsTaskRowOf schema t m) ns next) (sym (numbers_stay m i out)) (subst (λ (xs : List TaskRow). AllZip (IsTaskRowOf schema t m) (numbers_of m i) xs) (sym e) all)
