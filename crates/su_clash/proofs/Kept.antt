-- Whether names keep a step, as a test: what is called the same stays so, so a kept step stays kept.
use Rattle.std.proofs.Common.{◌≡◌, ℕ, ◌<◌, ◌≤◌, Bool, true, false, not, ◌||◌, List, [], get_or, length, filter, sym, ap, ◌∙◌, arith, inl, inr, ⊎_elim}
use Rattle.std.specs.List.{list_all, range_with_len}
use Rattle.std.specs.Ordering.{nat_cmp}
use Rattle.std.specs.FinSet.{FinSet, contains}
use Rattle.std.proofs.lemmas.Bool.{cases_Bool, cases_lt, false≢true}
use Rattle.std.proofs.lemmas.List.{get_or_default, get_or_past}
use Rattle.std.proofs.lemmas.List.Elements.{All-contains}
use Rattle.std.proofs.lemmas.List.Sums.{AllPass-from_list_all, list_all-from_AllPass}
use Rattle.su_base.proofs.Items.{All-members, Contains-range}
use Rattle.su_fd.specs.declared.dependencies.Fd.{Fd}
use Rattle.su_tableau.specs.declared.symbols.Sym.{Sym}
use Rattle.su_tableau.specs.declared.symbols.Sym.TheVariants.{Var}
use Rattle.su_chase.specs.Chase.{SameLabels}
use Rattle.su_clash.specs.declared.renaming.Rename.{Rename}
use Rattle.su_clash.specs.declared.steps.Step.{Step}
use Rattle.su_clash.specs.Derivations.{fd_of}
use Rattle.su_clash.specs.inside.Renames.{is_same, renamed, is_one_at, is_kept, HaveOneWidth, IsStepOf, BreaksBy, StepIsTaken, Makes}
use Rattle.su_clash.proofs.Names.{same_is, same_itself}
use Rattle.su_clash.proofs.Open.{all_steps, in_all, fewer_pass}

module _ (set : FinSet nat_cmp) (first second : List Sym) where
  abbrev x : ℕ → Sym
  x a = get_or first a (Var 0)

  abbrev y : ℕ → Sym
  y a = get_or second a (Var 0)

  module _ (label : Sym → Sym) where
    in_set : (a : ℕ) → contains set a ≡ true → is_one_at set first second label a ≡ is_same (label (x a)) (label (y a))
    in_set a has = ap (λ (b : Bool). not b || is_same (label (x a)) (label (y a))) has

    out_of_set : (a : ℕ) → contains set a ≡ false → is_one_at set first second label a ≡ true
    out_of_set a out = ap (λ (b : Bool). not b || is_same (label (x a)) (label (y a))) out

    -- where the test passes at each attribute, the rows have the same labels
    pub labels_from : (width : ℕ) → width ≤ 128 → length first ≡ width → length second ≡ width → list_all (is_one_at set first second label) (range_with_len 0 128) ≡ true → SameLabels label set first second
    labels_from width narrow f s pass a d has =
        ⊎_elim
        (λ (low : a < width).
        let one : is_one_at set first second label a ≡ true =
        All-contains (λ (n : ℕ). is_one_at set first second label n ≡ true) (range_with_len 0 128) a (AllPass-from_list_all (is_one_at set first second label) (range_with_len 0 128) pass) (Contains-range 128 a (omega (arith, low, narrow))) in
        let same : label (x a) ≡ label (y a) = same_is (label (x a)) (label (y a)) (sym (in_set a has) ∙ one) in
        ap label (get_or_default first a d (Var 0) (omega (arith, low, f))) ∙ same ∙ ap label (sym (get_or_default second a d (Var 0) (omega (arith, low, s)))))
        (λ (high : width ≤ a). ap label (get_or_past first a d (omega (arith, f, high)) ∙ sym (get_or_past second a d (omega (arith, s, high)))))
        (cases_lt a width)

    pub labels_to : SameLabels label set first second → list_all (is_one_at set first second label) (range_with_len 0 128) ≡ true
    labels_to same =
        list_all-from_AllPass (is_one_at set first second label) (range_with_len 0 128)
        (All-members (λ (a : ℕ). is_one_at set first second label a ≡ true) (range_with_len 0 128)
        (λ a c.
        elim (cases_Bool (contains set a)) [
          | inl has ↦ in_set a has ∙ ap (is_same (label (x a))) (sym (same a (Var 0) has)) ∙ same_itself (label (x a))
          | inr out ↦ out_of_set a out
        ]))

module _ (fds : List Fd) (rows : List (List Sym)) (wide : HaveOneWidth rows) where
  row_wide : (k : ℕ) → k < length rows → length (get_or rows k []) ≡ wide.width
  row_wide k low = wide.all k [] low

  -- a step of these that is kept has the same labels on the right side
  pub kept_labels : (renames : List Rename) (s : Step) → IsStepOf fds rows s → is_kept fds rows renames s ≡ true → SameLabels (renamed renames) (fd_of fds s).right (get_or rows s.first []) (get_or rows s.second [])
  kept_labels renames s is pass =
      labels_from (fd_of fds s).right (get_or rows s.first []) (get_or rows s.second []) (renamed renames) wide.width wide.narrow (row_wide s.first is.first) (row_wide s.second is.second) pass

  module _ (old new : List Rename) (s : Step) (breaks : BreaksBy fds rows old s) (m : Makes (StepIsTaken fds rows s) old new) where
    open_before : not (is_kept fds rows old s) ≡ true
    open_before =
        elim (cases_Bool (is_kept fds rows old s)) [
          | inl t ↦ absurd (breaks.broken (kept_labels old s breaks.follows.named t))
          | inr f ↦ ap not f
        ]

    kept_after : not (is_kept fds rows new s) ≡ false
    kept_after = ap not (labels_to (fd_of fds s).right (get_or rows s.first []) (get_or rows s.second []) (renamed new) m.made)

    stays : (a : Step) → is_kept fds rows old a ≡ true → is_kept fds rows new a ≡ true
    stays a pass =
        let set = (fd_of fds a).right in
        let first = get_or rows a.first [] in
        let second = get_or rows a.second [] in
        let before = AllPass-from_list_all (is_one_at set first second (renamed old)) (range_with_len 0 128) pass in
        list_all-from_AllPass (is_one_at set first second (renamed new)) (range_with_len 0 128)
        (λ i d l.
        let n : ℕ = get_or (range_with_len 0 128) i d in
        let one : is_one_at set first second (renamed old) n ≡ true = before i d l in
        elim (cases_Bool (contains set n)) [
          | inl has ↦
              let same : renamed old (x set first second n) ≡ renamed old (y set first second n) = same_is (renamed old (x set first second n)) (renamed old (y set first second n)) (sym (in_set set first second (renamed old) n has) ∙ one) in
              let still = m.kept (x set first second n) (y set first second n) same in
              in_set set first second (renamed new) n has ∙ ap (is_same (renamed new (x set first second n))) (sym still) ∙ same_itself (renamed new (x set first second n))
          | inr out ↦ out_of_set set first second (renamed new) n out
        ])

    open_still : (a : Step) → not (is_kept fds rows new a) ≡ true → not (is_kept fds rows old a) ≡ true
    open_still a opened =
        elim (cases_Bool (is_kept fds rows old a)) [
          | inl t ↦ absurd (false≢true (ap not (sym (stays a t)) ∙ opened))
          | inr f ↦ ap not f
        ]

    -- with a step that breaks and is taken there are fewer that aren't kept
    pub fewer_open : length (filter (λ a. not (is_kept fds rows new a)) (all_steps (length fds) (length rows))) < length (filter (λ a. not (is_kept fds rows old a)) (all_steps (length fds) (length rows)))
    fewer_open =
        fewer_pass (λ a. not (is_kept fds rows old a)) (λ a. not (is_kept fds rows new a)) open_still (all_steps (length fds) (length rows)) s
        (in_all (length fds) (length rows) s.fd s.first s.second breaks.follows.named.fd breaks.follows.named.first breaks.follows.named.second) open_before kept_after
