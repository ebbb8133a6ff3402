-- An ear is taken out of a body, or put last, and its parent loses the rows without partner in it.
use Rattle.std.proofs.Common.{◌≡◌, ◌≢◌, ◌⊎◌, ◌++◌, ◌+◌, ◌-◌, ℕ, ◌<◌, true, List, [], ◌∷◌, length, get_or, set, refl, sym, ap, subst, ◌∙◌, ⊎_elim, arith}
use Rattle.std.specs.List.{remove}
use Rattle.std.proofs.lemmas.Bool.{cases_eq}
use Rattle.std.proofs.lemmas.List.{get_or_default, get_or-set_same, get_or-set_other, length-set, length-append}
use Rattle.std.proofs.lemmas.List.Elements.{All-cons, All-head, All-nil}
use Rattle.std.proofs.lemmas.List.Folds.{list_any_at}
use Rattle.su_base.specs.declared.values.Value.{Value}
use Rattle.su_exec.specs.declared.checks.Check.{Check}
use Rattle.su_exec.specs.inside.Bodies.{AreThere}
use Rattle.su_exec.specs.inside.Semijoins.{IsSemijoin, Leaves}
use Rattle.su_exec.specs.inside.Checks.{all_hold, check_vars}
use Rattle.su_exec.specs.inside.Edges.{Edge, Fits, FitsAll, Keeps, Reaches, Same, among, has}
use Rattle.su_exec.proofs.PartSteps.{agree_from, fits_agree, keeps_refl, keeps_trans, patched, patched_in, patched_out, same_keeps}
use Rattle.su_exec.proofs.Parts.{alone, one_out, put_in}
use Rattle.su_exec.proofs.BodySteps.{among_first, among_last, has_either, hold_agree}
use Rattle.su_exec.proofs.MergeSteps.{among_removed, among_set}

-- ---- bodies that leave the same

pub leaves_refl : (needed : List ℕ) (es : List (Edge ℕ)) (cs : List Check) → Leaves needed es cs es cs
leaves_refl needed es cs = record { checks = refl; keeps = λ values. keeps_refl needed es (all_hold values cs); there = λ h. h; some = λ h. h }

pub leaves_trans : (needed : List ℕ) (es fs gs : List (Edge ℕ)) (cs ds bs : List Check) → Leaves needed es cs fs ds → Leaves needed fs ds gs bs → Leaves needed es cs gs bs
leaves_trans needed es fs gs cs ds bs a b =
    let second : Leaves needed fs cs gs cs = record {
      checks = refl;
      keeps = subst (λ (xs : List Check). (values : List Value) → Keeps needed fs (all_hold values xs) gs (all_hold values xs)) a.checks b.keeps;
      there = subst (λ (xs : List Check). AreThere needed xs fs → AreThere needed xs gs) a.checks b.there;
      some = b.some;
    } in
    record {
      checks = b.checks ∙ a.checks;
      keeps = λ values. keeps_trans needed es fs gs (all_hold values cs) (all_hold values cs) (all_hold values cs) (a.keeps values) (second.keeps values);
      there = λ h. second.there (a.there h);
      some = λ h. b.some (a.some h);
    }

pub leaves_same : (needed : List ℕ) (es fs : List (Edge ℕ)) (cs : List Check) → Same es fs → length fs ≡ length es → ((k : ℕ) → among es k ≡ true → among fs k ≡ true) → Leaves needed es cs fs cs
leaves_same needed es fs cs same long vars = record {
  checks = refl;
  keeps = λ values. same_keeps needed es fs (all_hold values cs) same;
  there = λ there k h. vars k (there k h);
  some = λ h. omega arith;
}

-- ---- an ear

module _ (needed : List ℕ) (cs : List Check) (es rest : List (Edge ℕ)) (i p : ℕ) (a b g : Edge ℕ) (il : i < length es) (ae : a ≡ get_or es i a) (re : rest ≡ remove es i) (pl : p < length rest) (be : b ≡ get_or rest p b) (semi : IsSemijoin b a g) where
  abbrev after : List (Edge ℕ)
  after = set rest p g

  kept : (v : ℕ → ℕ) → Fits v a → FitsAll v rest → FitsAll v after
  kept v x all k d l =
      let P : Edge ℕ → Type 0 = λ e. Fits v e in
      let n = length-set rest p g in
      let pb : P b = subst P (sym be) (all p b pl) in
      ⊎_elim
      (λ (e : k ≡ p). subst P (sym (ap (λ k. get_or after k d) e ∙ get_or-set_same rest p g d pl)) (semi.stays v pb x))
      (λ (e : k ≢ p). subst P (sym (get_or-set_other rest p k g d e)) (all k d (omega arith)))
      (cases_eq k p)

  at_parent : (v : ℕ → ℕ) → FitsAll v after → Fits v g
  at_parent v all = let n = length-set rest p g in subst (λ (e : Edge ℕ). Fits v e) (get_or-set_same rest p g g pl) (all p g (omega arith))

  back : (v : ℕ → ℕ) → FitsAll v after → FitsAll v rest
  back v all k d l =
      let P : Edge ℕ → Type 0 = λ e. Fits v e in
      let n = length-set rest p g in
      ⊎_elim
      (λ (e : k ≡ p). subst P (be ∙ get_or_default rest p b d pl ∙ ap (λ k. get_or rest k d) (sym e)) (semi.fewer v (at_parent v all)))
      (λ (e : k ≢ p). subst P (get_or-set_other rest p k g d e) (all k d (omega arith)))
      (cases_eq k p)

  stays_among : (k : ℕ) → among rest k ≡ true → among after k ≡ true
  stays_among k h = among_set rest p b g k pl be (λ m. subst (λ (xs : List ℕ). has xs k ≡ true) (sym semi.vars) m) h

  some_after : 0 < length after
  some_after = let n = length-set rest p g in omega arith

  parts : (k : ℕ) → among es k ≡ true → (has a.vars k ≡ true) ⊎ (among rest k ≡ true)
  parts k h = subst (λ (xs : List (Edge ℕ)). (has a.vars k ≡ true) ⊎ (among xs k ≡ true)) (sym re) (among_removed es i a k il ae h)

  -- put last
  last_same : Same es (after ++ a ∷ [])
  last_same v =
      let P : Edge ℕ → Type 0 = λ e. Fits v e in (
        λ all. let x = (one_out es i a rest il ae re v).0 all in (put_in after a v).1 (x.0, kept v (All-head P a [] x.0) x.1),
        λ all. let x = (put_in after a v).0 all in (one_out es i a rest il ae re v).1 (x.0, back v x.1),
      )

  pub put_last : Leaves needed es cs (after ++ a ∷ []) cs
  put_last = record {
    checks = refl;
    keeps = λ values. same_keeps needed es (after ++ a ∷ []) (all_hold values cs) last_same;
    there = λ there k h.
        ⊎_elim
        (λ (x : has a.vars k ≡ true). among_last after a k x)
        (λ (x : among rest k ≡ true). among_first after (a ∷ []) k (stays_among k x))
        (parts k (there k h));
    some = λ h. let n = length-append after (a ∷ []) in omega arith;
  }

  -- taken out
  module _ (wanted : List ℕ) (in_needed : (k : ℕ) → has needed k ≡ true → has wanted k ≡ true) (in_rest : (k : ℕ) → among after k ≡ true → has wanted k ≡ true) (in_checks : (k : ℕ) → has (check_vars cs) k ≡ true → has wanted k ≡ true)
      (covers : (k : ℕ) → has a.vars k ≡ true → has wanted k ≡ true → has b.vars k ≡ true) where
    taken_back : (values : List Value) (v : ℕ → ℕ) → FitsAll v after → all_hold values cs v ≡ true → Reaches needed v es (all_hold values cs)
    taken_back values v f q =
        let w = semi.partner v (at_parent v f) in
        let one : List (Edge ℕ) = a ∷ [] in
        let x = patched one w.valuation v in
        let there : FitsAll w.valuation one = All-cons (λ (e : Edge ℕ). Fits w.valuation e) a [] w.fits (All-nil (λ (e : Edge ℕ). Fits w.valuation e)) in
        let here = fits_agree w.valuation x one (λ k h. sym (patched_in one w.valuation v k h)) there in
        let same : (k : ℕ) → has wanted k ≡ true → v k ≡ x k = λ k h. patched_out one w.valuation v k (λ m. w.same k (covers k (alone a k m) h) (alone a k m)) in
        record {
          valuation = x;
          fits = (one_out es i a rest il ae re x).1 (here, back x (fits_agree v x after (λ k h. same k (in_rest k h)) f));
          passes = sym (hold_agree values cs v x (λ k h. same k (in_checks k h))) ∙ q;
          same = agree_from v x needed (λ k h. same k (in_needed k h));
        }

    pub taken_out : Leaves needed es cs after cs
    taken_out = record {
      checks = refl;
      keeps = λ values. (
        λ v f q. let x = (one_out es i a rest il ae re v).0 f in record { valuation = v; fits = kept v (All-head (λ (e : Edge ℕ). Fits v e) a [] x.0) x.1; passes = q; same = refl },
        λ v f q. taken_back values v f q,
      );
      there = λ there k h.
          let want : has wanted k ≡ true = ⊎_elim (λ (n : has needed k ≡ true). in_needed k n) (λ (n : has (check_vars cs) k ≡ true). in_checks k n) (has_either needed (check_vars cs) k h) in
          ⊎_elim
          (λ (x : has a.vars k ≡ true).
          let n = length-set rest p g in
          let m : has g.vars k ≡ true = subst (λ (xs : List ℕ). has xs k ≡ true) (sym semi.vars) (covers k x want) in
          list_any_at (λ (e : Edge ℕ). has e.vars k) after p g (omega arith) (ap (λ (e : Edge ℕ). has e.vars k) (get_or-set_same rest p g g pl) ∙ m))
          (λ (x : among rest k ≡ true). stays_among k x)
          (parts k (there k h));
      some = λ h. some_after;
    }
