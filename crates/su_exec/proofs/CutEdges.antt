-- Edges that lose rows, one step after another.
use Rattle.std.proofs.Common.{◌≡◌, ◌≢◌, ℕ, zero, suc, ◌+◌, ◌<◌, ◌≤◌, ◌++◌, Bool, true, false, List, [], ◌∷◌, length, get_or, set, Contains, refl, sym, ap, subst, ◌∙◌, ⊎_elim, true≢false, arith}
use Rattle.std.specs.Prelude.{cond, map}
use Rattle.std.specs.Cmp.{first_so, second_so}
use Rattle.std.proofs.lemmas.Bool.{cases_eq, cases_lt}
use Rattle.std.proofs.lemmas.List.{get_or_default, get_or-map, get_or-set_same, get_or-set_other, length-set}
use Rattle.std.proofs.lemmas.List.Elements.{Contains-append_cases, Contains-append_left, Contains-append_right}
use Rattle.su_base.specs.declared.values.Value.{Value}
use Rattle.su_base.proofs.Items.{Contains-one}
use Rattle.su_where.specs.Operator.{compares}
use Rattle.su_where.specs.declared.operators.Op.{Op}
use Rattle.su_exec.specs.declared.checks.Spot.TheVariants.{Code as Given, Left}
use Rattle.su_exec.specs.declared.checks.Test.{Test}
use Rattle.su_exec.specs.declared.checks.Check.{Check}
use Rattle.su_exec.specs.inside.Checks.{all_hold, check_holds, test_passes}
use Rattle.su_reduce.specs.Codes.{decode}
use Rattle.su_exec.specs.inside.Edges.{Edge, Fits, Keeps, has}
use Rattle.su_exec.specs.inside.Ranges.{AreCut, ArePassing, IsBound, IsSide, IsWidest, meets, meets_code}
use Rattle.su_exec.proofs.MergeSteps.{among_set}

pub none_lost : (t : (ℕ → ℕ) → Bool) (es : List (Edge ℕ)) → AreCut t es es
none_lost t es = record { fewer = λ v f. f; stays = λ v p f. f; len = refl; vars = λ k h. h }

pub lost_on : (t : (ℕ → ℕ) → Bool) (es fs gs : List (Edge ℕ)) → AreCut t es fs → AreCut t fs gs → AreCut t es gs
lost_on t es fs gs a b = record {
  fewer = λ v f. a.fewer v (b.fewer v f);
  stays = λ v p f. b.stays v p (a.stays v p f);
  len = b.len ∙ a.len;
  vars = λ k h. b.vars k (a.vars k h);
}

-- a test that says more
pub lost_for : (t u : (ℕ → ℕ) → Bool) (es fs : List (Edge ℕ)) → ((v : ℕ → ℕ) → u v ≡ true → t v ≡ true) → AreCut t es fs → AreCut u es fs
lost_for t u es fs more a = record { fewer = a.fewer; stays = λ v p f. a.stays v (more v p) f; len = a.len; vars = a.vars }

pub lost_keeps : (needed : List ℕ) (t : (ℕ → ℕ) → Bool) (es fs : List (Edge ℕ)) → AreCut t es fs → Keeps needed es t fs t
lost_keeps needed t es fs a = (λ v f p. record { valuation = v; fits = a.stays v p f; passes = p; same = refl }, λ v f p. record { valuation = v; fits = a.fewer v f; passes = p; same = refl })

-- one edge loses rows
pub one_loses :
    (t : (ℕ → ℕ) → Bool) (es : List (Edge ℕ)) (i : ℕ) (a g : Edge ℕ) → i < length es → a ≡ get_or es i a → g.vars ≡ a.vars
    → ((v : ℕ → ℕ) → Fits v g → Fits v a) → ((v : ℕ → ℕ) → t v ≡ true → Fits v a → Fits v g) → AreCut t es (set es i g)
one_loses t es i a g il ae vars fewer stays =
    let n = length-set es i g in
    record {
      fewer = λ v all k d l.
          let P : Edge ℕ → Type 0 = λ e. Fits v e in
          let here : P g = subst P (get_or-set_same es i g g il) (all i g (omega arith)) in
          ⊎_elim
          (λ (e : k ≡ i). subst P (ae ∙ get_or_default es i a d il ∙ ap (λ k. get_or es k d) (sym e)) (fewer v here))
          (λ (e : k ≢ i). subst P (get_or-set_other es i k g d e) (all k d (omega arith)))
          (cases_eq k i);
      stays = λ v p all k d l.
          let P : Edge ℕ → Type 0 = λ e. Fits v e in
          let here : P a = subst P (sym ae) (all i a il) in
          ⊎_elim
          (λ (e : k ≡ i). subst P (sym (ap (λ k. get_or (set es i g) k d) e ∙ get_or-set_same es i g d il)) (stays v p here))
          (λ (e : k ≢ i). subst P (sym (get_or-set_other es i k g d e)) (all k d (omega arith)))
          (cases_eq k i);
      len = n;
      vars = λ k h. among_set es i a g k il ae (λ e. ap (λ ks. has ks k) vars ∙ e) h;
    }

-- ---- bounds

-- what bounds a column of an edge bounds its variable
pub bound_by : (values : List Value) (es : List (Edge ℕ)) (e : Edge ℕ) (place y : ℕ) (side : Op) (i : ℕ) → i < length es → e ≡ get_or es i e → place < length e.vars → get_or e.vars place 0 ≡ y → (b : ℕ) → IsWidest values e place side b → IsBound values es y side b
bound_by values es e place y side i low is within at b widest op ok v fits x h =
    let fit : Fits v e = subst (λ (e : Edge ℕ). Fits v e) (sym is) (fits i e low) in
    let row : get_or e.rows fit.0 [] ≡ map v e.vars = get_or_default e.rows fit.0 [] (map v e.vars) fit.1 ∙ fit.2 in
    let code : get_or (get_or e.rows fit.0 []) place 0 ≡ v y = ap (λ (r : List ℕ). get_or r place 0) row ∙ get_or-map v e.vars place 0 0 within ∙ ap v at in
    widest op ok fit.0 fit.1 x (subst (λ k. compares op x (decode values k) ≡ true) (sym code) h)

-- what meets the variable meets the bound
pub cut_to : (values : List Value) (es fs : List (Edge ℕ)) (x y bound : ℕ) (op side : Op) → IsSide op side → IsBound values es y side bound → AreCut (meets_code values x op bound) es fs → AreCut (meets values x op y) es fs
cut_to values es fs x y bound op side ok bounds a = record {
  fewer = a.fewer;
  stays = λ v h f. a.stays v (bounds op ok v f (decode values (v x)) h) f;
  len = a.len;
  vars = a.vars;
}

pub same_place : (es : List (Edge ℕ)) (i : ℕ) (a b : Edge ℕ) → i < length es → a ≡ get_or es i a → b ≡ get_or es i b → a ≡ b
same_place es i a b low ae be = ae ∙ get_or_default es i a b low ∙ sym be

-- ---- rows that pass

pub none_pass : (values : List Value) (e : Edge ℕ) (test : Test) → ArePassing values e test 0 []
none_pass values e test r = (λ c. let l = c.1 in absurd (omega arith), λ p. let l = p.1 in absurd (omega arith))

pub pass_more : (values : List Value) (e : Edge ℕ) (test : Test) (n : ℕ) (rows : List (List ℕ)) (row : List ℕ) (passes : Bool) → row ≡ get_or e.rows n [] → passes ≡ test_passes values row [] test → ArePassing values e test n rows → ArePassing values e test (n + 1) (rows ++ cond passes (row ∷ []) [])
pass_more values e test n rows row true is holds old r = (
  λ c.
      ⊎_elim
      (λ (h : Contains rows r). let p = (old r).0 h in let l = p.1 in (p.0, omega arith, p.2, p.3))
      (λ (h : Contains (row ∷ []) r).
      let same : row ≡ r = Contains-one row r h in
      (n, omega arith, sym is ∙ same, ap (λ s. test_passes values s [] test) (sym same) ∙ sym holds))
      (Contains-append_cases rows (row ∷ []) r c),
  λ p.
      let l = p.1 in
      ⊎_elim
      (λ (b : p.0 < n). Contains-append_left rows (row ∷ []) r ((old r).1 (p.0, b, p.2, p.3)))
      (λ (b : n ≤ p.0).
      let same : p.0 ≡ n = omega arith in
      let here : row ≡ r = is ∙ ap (λ j. get_or e.rows j []) (sym same) ∙ p.2 in
      Contains-append_right rows (row ∷ []) r (0, omega arith, here))
      (cases_lt p.0 n),
)
pass_more values e test n rows row false is holds old r = (
  λ c.
      ⊎_elim
      (λ (h : Contains rows r). let p = (old r).0 h in let l = p.1 in (p.0, omega arith, p.2, p.3))
      (λ (h : Contains [] r). let l = h.1 in absurd (omega arith))
      (Contains-append_cases rows [] r c),
  λ p.
      let l = p.1 in
      ⊎_elim
      (λ (b : p.0 < n). Contains-append_left rows [] r ((old r).1 (p.0, b, p.2, p.3)))
      (λ (b : n ≤ p.0).
      let same : p.0 ≡ n = omega arith in
      let here : row ≡ r = is ∙ ap (λ j. get_or e.rows j []) (sym same) ∙ p.2 in
      absurd (true≢false (sym p.3 ∙ ap (λ s. test_passes values s [] test) (sym here) ∙ sym holds)))
      (cases_lt p.0 n),
)

-- one edge keeps the rows that pass
pub cut_at :
    (values : List Value) (es : List (Edge ℕ)) (i : ℕ) (a g : Edge ℕ) (place x : ℕ) (op : Op) (bound : ℕ) (rows : List (List ℕ)) → i < length es → a ≡ get_or es i a → g ≡ record { vars = a.vars; rows = rows } → place < length a.vars → get_or a.vars place 0 ≡ x
    → ArePassing values a (record { left = Left place; op = op; right = Given bound }) (length a.rows) rows → AreCut (meets_code values x op bound) es (set es i g)
cut_at values es i a g place x op bound rows il ae ge within at pass =
    one_loses (meets_code values x op bound) es i a g il ae (ap (λ (e : Edge ℕ). e.vars) ge)
    (λ v f.
    let h : Contains rows (map v a.vars) = subst (λ (e : Edge ℕ). Fits v e) ge f in
    let p = (pass (map v a.vars)).0 h in
    (p.0, p.1, get_or_default a.rows p.0 (map v a.vars) [] p.1 ∙ p.2))
    (λ v t f.
    let test : Test = record { left = Left place; op = op; right = Given bound } in
    let told : test_passes values (map v a.vars) [] test ≡ true = ap (λ k. compares op (decode values k) (decode values bound)) (get_or-map v a.vars place 0 0 within ∙ ap v at) ∙ t in
    subst (λ (e : Edge ℕ). Fits v e) (sym ge) ((pass (map v a.vars)).1 (f.0, f.1, get_or_default a.rows f.0 [] (map v a.vars) f.1 ∙ f.2, told)))

-- ---- checks

pub holds_at : (values : List Value) (checks : List Check) (i : ℕ) (d : Check) (v : ℕ → ℕ) → i < length checks → all_hold values checks v ≡ true → check_holds values v (get_or checks i d) ≡ true
holds_at values [] i d v low h = absurd (omega arith)
holds_at values (c ∷ checks) zero d v low h = first_so (check_holds values v c) (all_hold values checks v) h
holds_at values (c ∷ checks) (suc i) d v low h = holds_at values checks i d v (omega arith) (second_so (check_holds values v c) (all_hold values checks v) h)
