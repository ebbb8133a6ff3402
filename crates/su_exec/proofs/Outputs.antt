-- From what candidates show to the outputs of a task.
use Rattle.std.proofs.Common.{◌≡◌, ℕ, zero, suc, ◌+◌, ◌<◌, ◌≤◌, ◌⊎◌, ◌↔◌, Bool, true, false, Option, Some, List, [], ◌∷◌, ◌++◌, length, get_or, Contains, refl, sym, ap, subst, ◌∙◌, inl, inr, ⊎_elim, arith, append-nil, append_assoc}
use Rattle.std.specs.Prelude.{map, All, pos, nat_eq, ◌&&◌, take, Result, Ok, Err, IfOk, IfErr}
use Rattle.std.specs.List.{AllZip}
use Rattle.std.specs.List.Sorted.{IsStrictlySortedBy}
use Rattle.std.proofs.lemmas.Bool.{cases_Bool, cases_lt, true≢false}
use Rattle.std.proofs.lemmas.Bool.Decides.{nat_tests}
use Rattle.std.proofs.lemmas.List.{get_or-map, get_or_default, length-map, take_more}
use Rattle.std.proofs.lemmas.List.Elements.{All-cons, All-nil, All-head, All-tail, All-contains}
use Rattle.std.proofs.lemmas.List.Folds.{Any-from_list_any}
use Rattle.std.proofs.lemmas.Option.{same_Some}
use Rattle.su_base.proofs.Items.{Contains-map, Contains-map_source, AllZip-more}
use Rattle.su_base.specs.declared.values.Value.{Value}
use Rattle.su_base.specs.declared.values.Value.TheVariants.{Int}
use Rattle.su_base.specs.Value.{compare_lists}
use Rattle.su_rel.specs.Stored.{Stored}
use Rattle.su_rel.specs.MoreThan.{AreMoreThan}
use Rattle.su_where.specs.Operator.{compares}
use Rattle.su_index.proofs.Runs.{sorted_nil}
use Rattle.su_tableau.specs.declared.symbols.Sym.{Sym}
use Rattle.su_tableau.specs.declared.symbols.Sym.TheVariants.{Const, Var}
use Rattle.su_tableau.specs.Valuations.{value_of, values_of}
use Rattle.su_exec.specs.declared.checks.Check.{Check}
use Rattle.su_exec.specs.declared.checks.Spot.{Spot}
use Rattle.su_exec.specs.declared.checks.CodedSymbol.{CodedSymbol}
use Rattle.su_exec.specs.declared.checks.CodedSymbol.TheVariants.{Code, Variable}
use Rattle.su_exec.specs.declared.merging.Merged.{Merged}
use Rattle.su_exec.specs.declared.merging.Merged.TheVariants.{Whole, Over, Nothing}
use Rattle.su_exec.specs.declared.tasks.Compared.{Compared}
use Rattle.su_exec.specs.declared.tasks.ExecFault.{ExecFault}
use Rattle.su_exec.specs.declared.tasks.ExecFault.TheVariants.{More}
use Rattle.su_exec.specs.declared.tasks.Task.{Task}
use Rattle.su_exec.specs.inside.Bodies.{AreThere, HasMore, IsEmpty, IsGiven, IsMerged}
use Rattle.su_reduce.specs.Codes.{AreApart, decode, Extends}
use Rattle.su_exec.specs.inside.Checks.{HasTerm, IsSpotIn, all_hold, check_holds, check_vars, code_of, spot_code, vars_of}
use Rattle.su_exec.specs.inside.Coded.{AreRowEdges, IsCoded, NoneAgrees, meaning, meanings}
use Rattle.su_exec.specs.inside.Edges.{Edge, Fits, FitsAll, HaveSameValues, Keeps, always, among, has}
use Rattle.su_reduce.specs.Sheets.{AreBelow}
use Rattle.su_exec.specs.inside.Joins.{IsReal}
use Rattle.su_exec.specs.Outputs.{Agrees, AreOutputs, HoldsUnder, IsOutput}
use Rattle.su_exec.specs.inside.Shown.{AreChecksOf, AreSpotsOf, AreSymbolTerms, HasSomeEdge, HasVars, IsCheckOf, IsMoreBy, IsShown, IsShownBy, IsTermOf, spot_values, term_values, term_vars}
use Rattle.su_exec.specs.Tasks.{IsTask, Occurs}
use Rattle.su_exec.proofs.CodedValuations.{code_back, fits_all_codes, fits_all_values, place_in, placed}
use Rattle.su_exec.proofs.Meanings.{edges_up, meanings_same}
use Rattle.su_exec.proofs.PartSteps.{agree_at, agree_from}
use Rattle.su_exec.proofs.BodySteps.{code_same, has_first, has_second, has_either}

-- ---- what spots show

pub shown_values : (values : List Value) (vars : List ℕ) (terms : List CodedSymbol) (spots : List Spot) (v : ℕ → ℕ) → AreSpotsOf vars terms spots → spot_values values spots (map v vars) ≡ term_values values terms v
shown_values values vars [] [] v h = refl
shown_values values vars [] (s ∷ spots) v h = absurd h
shown_values values vars (t ∷ terms) [] v h = absurd h
shown_values values vars (t ∷ terms) (s ∷ spots) v h =
    let first : decode values (spot_code s (map v vars) []) ≡ decode values (code_of v t) = ap (decode values) (h.0.0 v) in
    let rest : spot_values values spots (map v vars) ≡ term_values values terms v = shown_values values vars terms spots v h.1 in
    ap (λ y. y ∷ spot_values values spots (map v vars)) first ∙ ap (λ ys. decode values (code_of v t) ∷ ys) rest

pub spots_within : (vars : List ℕ) (terms : List CodedSymbol) (spots : List Spot) → AreSpotsOf vars terms spots → All (IsSpotIn (length vars) 0) spots
spots_within vars [] [] h = All-nil (IsSpotIn (length vars) 0)
spots_within vars [] (s ∷ spots) h = absurd h
spots_within vars (t ∷ terms) [] h = absurd h
spots_within vars (t ∷ terms) (s ∷ spots) h = All-cons (IsSpotIn (length vars) 0) s spots h.0.1 (spots_within vars terms spots h.1)

module _ (values : List Value) (e : Edge ℕ) (terms : List CodedSymbol) (spots : List Spot) (real : IsReal e) (are : AreSpotsOf e.vars terms spots) where
  -- the values at the spots of the rows are what is shown
  pub shown : (h : List Value) → Contains (map (spot_values values spots) e.rows) h ↔ IsShown values e terms h
  shown h = (
    λ c.
        let w = Contains-map_source (spot_values values spots) e.rows h c in
        let v = All-contains (λ r. (v : ℕ → ℕ) × (map v e.vars ≡ r)) e.rows w.0 real w.1 in
        record {
          valuation = v.0;
          fits = subst (λ (r : List ℕ). Contains e.rows r) (sym v.1) w.1;
          gives = sym (shown_values values e.vars terms spots v.0 are) ∙ ap (spot_values values spots) v.1 ∙ w.2;
        },
    λ s. subst (λ (g : List Value). Contains (map (spot_values values spots) e.rows) g) (shown_values values e.vars terms spots s.valuation are ∙ s.gives) (Contains-map (spot_values values spots) e.rows (map s.valuation e.vars) s.fits),
  )

-- ---- terms

pub term_up : (a b : List Value) (s : Sym) (t : CodedSymbol) → Extends a b → IsTermOf a s t → IsTermOf b s t
term_up a b (Const value) t more h = (h.0, h.1, (let l = h.2 in let m = more.longer in omega arith), more.same h.0 h.2 ∙ h.3)
term_up a b (Var k) t more h = h

pub terms_up : (a b : List Value) (symbols : List Sym) (terms : List CodedSymbol) → Extends a b → AreSymbolTerms a symbols terms → AreSymbolTerms b symbols terms
terms_up a b [] [] more h = h
terms_up a b [] (t ∷ terms) more h = absurd h
terms_up a b (s ∷ symbols) [] more h = absurd h
terms_up a b (s ∷ symbols) (t ∷ terms) more h = (term_up a b s t more h.0, terms_up a b symbols terms more h.1)

pub checks_up : (a b : List Value) (comparisons : List Compared) (checks : List Check) → Extends a b → AreChecksOf a comparisons checks → AreChecksOf b comparisons checks
checks_up a b [] [] more h = h
checks_up a b [] (c ∷ checks) more h = absurd h
checks_up a b (d ∷ comparisons) [] more h = absurd h
checks_up a b (d ∷ comparisons) (c ∷ checks) more h =
    let first = h.0 in
    (record { left = term_up a b d.left c.left more first.left; op = first.op; right = term_up a b d.right c.right more first.right }, checks_up a b comparisons checks more h.1)

pub vars_more : (terms : List CodedSymbol) (t : CodedSymbol) → term_vars (terms ++ t ∷ []) ≡ term_vars terms ++ vars_of t
vars_more [] t = append-nil (vars_of t)
vars_more (u ∷ terms) t = ap (λ r. vars_of u ++ r) (vars_more terms t) ∙ sym (append_assoc (vars_of u) (term_vars terms) (vars_of t))

pub vars_step : (terms : List CodedSymbol) (i : ℕ) (d : CodedSymbol) (old new : List ℕ) → i < length terms → old ≡ term_vars (take i terms) → new ≡ old ++ vars_of (get_or terms i d) → new ≡ term_vars (take (i + 1) terms)
vars_step terms i d old new l before is = is ∙ ap (λ ks. ks ++ vars_of (get_or terms i d)) before ∙ sym (ap term_vars (take_more terms i d l) ∙ vars_more (take i terms) (get_or terms i d))

module _ (values : List Value) where
  sym_value : (w : ℕ → ℕ) (v : ℕ → Value) (s : Sym) (t : CodedSymbol) → IsTermOf values s t → ((k : ℕ) → s ≡ Var k → v k ≡ decode values (w k)) → value_of v s ≡ decode values (code_of w t)
  sym_value w v (Const value) t h same = sym h.3 ∙ ap (λ (t : CodedSymbol). decode values (code_of w t)) (sym h.1)
  sym_value w v (Var k) t h same = same k refl ∙ ap (λ (t : CodedSymbol). decode values (code_of w t)) (sym h)

  syms_values : (w : ℕ → ℕ) (v : ℕ → Value) (symbols : List Sym) (terms : List CodedSymbol) → AreSymbolTerms values symbols terms → ((k : ℕ) → Contains symbols (Var k) → v k ≡ decode values (w k)) → values_of v symbols ≡ term_values values terms w
  syms_values w v [] [] h same = refl
  syms_values w v [] (t ∷ terms) h same = absurd h
  syms_values w v (s ∷ symbols) [] h same = absurd h
  syms_values w v (s ∷ symbols) (t ∷ terms) h same =
      let first : value_of v s ≡ decode values (code_of w t) = sym_value w v s t h.0 (λ k e. same k (0, omega arith, e)) in
      let rest : values_of v symbols ≡ term_values values terms w = syms_values w v symbols terms h.1 (λ k c. same k (suc c.0, (let l = c.1 in omega arith), c.2)) in
      ap (λ y. y ∷ values_of v symbols) first ∙ ap (λ ys. decode values (code_of w t) ∷ ys) rest

  same_check : (w : ℕ → ℕ) (v : ℕ → Value) (d : Compared) (c : Check) → IsCheckOf values d c → ((k : ℕ) → (d.left ≡ Var k) ⊎ (d.right ≡ Var k) → v k ≡ decode values (w k)) → compares d.op (value_of v d.left) (value_of v d.right) ≡ check_holds values w c
  same_check w v d c h same =
      let left = sym_value w v d.left c.left h.left (λ k e. same k (inl e)) in
      let right = sym_value w v d.right c.right h.right (λ k e. same k (inr e)) in
      ap (λ o. compares o (value_of v d.left) (value_of v d.right)) (sym h.op) ∙ ap (λ x. compares c.op x (value_of v d.right)) left ∙ ap (λ y. compares c.op (decode values (code_of w c.left)) y) right

  hold_one : (w : ℕ → ℕ) (c : Check) (cs : List Check) → all_hold values (c ∷ cs) w ≡ true → (check_holds values w c ≡ true) × (all_hold values cs w ≡ true)
  hold_one w c cs h =
      ⊎_elim
      (λ (t : check_holds values w c ≡ true). (t, ap (λ b. b && all_hold values cs w) (sym t) ∙ h))
      (λ (t : check_holds values w c ≡ false). absurd (true≢false (sym h ∙ ap (λ b. b && all_hold values cs w) t)))
      (cases_Bool (check_holds values w c))

  to_holds : (w : ℕ → ℕ) (v : ℕ → Value) (ds : List Compared) (cs : List Check) → AreChecksOf values ds cs → ((d : Compared) (k : ℕ) → Contains ds d → (d.left ≡ Var k) ⊎ (d.right ≡ Var k) → v k ≡ decode values (w k)) → all_hold values cs w ≡ true → All (HoldsUnder v) ds
  to_holds w v [] [] h same all = All-nil (HoldsUnder v)
  to_holds w v [] (c ∷ cs) h same all = absurd h
  to_holds w v (d ∷ ds) [] h same all = absurd h
  to_holds w v (d ∷ ds) (c ∷ cs) h same all =
      let one = hold_one w c cs all in
      All-cons (HoldsUnder v) d ds (same_check w v d c h.0 (λ k e. same d k (0, omega arith, refl) e) ∙ one.0) (to_holds w v ds cs h.1 (λ d' k m e. same d' k (suc m.0, (let l = m.1 in omega arith), m.2) e) one.1)

  from_holds : (w : ℕ → ℕ) (v : ℕ → Value) (ds : List Compared) (cs : List Check) → AreChecksOf values ds cs → ((d : Compared) (k : ℕ) → Contains ds d → (d.left ≡ Var k) ⊎ (d.right ≡ Var k) → v k ≡ decode values (w k)) → All (HoldsUnder v) ds → all_hold values cs w ≡ true
  from_holds w v [] [] h same all = refl
  from_holds w v [] (c ∷ cs) h same all = absurd h
  from_holds w v (d ∷ ds) [] h same all = absurd h
  from_holds w v (d ∷ ds) (c ∷ cs) h same all =
      let first : check_holds values w c ≡ true = sym (same_check w v d c h.0 (λ k e. same d k (0, omega arith, refl) e)) ∙ All-head (HoldsUnder v) d ds all in
      let rest : all_hold values cs w ≡ true = from_holds w v ds cs h.1 (λ d' k m e. same d' k (suc m.0, (let l = m.1 in omega arith), m.2) e) (All-tail (HoldsUnder v) d ds all) in
      ap (λ b. b && all_hold values cs w) first ∙ rest

-- the variables of a term are the symbol's
term_var : (values : List Value) (s : Sym) (t : CodedSymbol) (k : ℕ) → IsTermOf values s t → has (vars_of t) k ≡ true → s ≡ Var k
term_var values (Const value) t k h m = absurd (true≢false (sym m ∙ ap (λ (t : CodedSymbol). has (vars_of t) k) h.1))
term_var values (Var j) t k h m =
    let e : has (j ∷ []) k ≡ true = ap (λ (t : CodedSymbol). has (vars_of t) k) (sym h) ∙ m in
    let f : j ≡ k = ⊎_elim (λ (u : nat_eq j k ≡ true). grind (arith, nat_tests, u)) (λ (u : nat_eq j k ≡ false). grind (arith, nat_tests, u, e)) (cases_Bool (nat_eq j k)) in
    ap Var f

terms_vars : (values : List Value) (symbols : List Sym) (terms : List CodedSymbol) (k : ℕ) → AreSymbolTerms values symbols terms → has (term_vars terms) k ≡ true → Contains symbols (Var k)
terms_vars values [] [] k h m = absurd (true≢false (sym m))
terms_vars values [] (t ∷ terms) k h m = absurd h
terms_vars values (s ∷ symbols) [] k h m = absurd h
terms_vars values (s ∷ symbols) (t ∷ terms) k h m =
    ⊎_elim
    (λ (a : has (vars_of t) k ≡ true). let e = term_var values s t k h.0 a in (0, omega arith, e))
    (λ (a : has (term_vars terms) k ≡ true). let c = terms_vars values symbols terms k h.1 a in (suc c.0, (let l = c.1 in omega arith), c.2))
    (has_either (vars_of t) (term_vars terms) k m)

checks_vars : (values : List Value) (ds : List Compared) (cs : List Check) (k : ℕ) → AreChecksOf values ds cs → has (check_vars cs) k ≡ true → (d : Compared) × Contains ds d × ((d.left ≡ Var k) ⊎ (d.right ≡ Var k))
checks_vars values [] [] k h m = absurd (true≢false (sym m))
checks_vars values [] (c ∷ cs) k h m = absurd h
checks_vars values (d ∷ ds) [] k h m = absurd h
checks_vars values (d ∷ ds) (c ∷ cs) k h m =
    let first = h.0 in
    ⊎_elim
    (λ (a : has (vars_of c.left) k ≡ true). (d, (0, omega arith, refl), inl (term_var values d.left c.left k first.left a)))
    (λ (a : has (vars_of c.right ++ check_vars cs) k ≡ true).
    ⊎_elim
    (λ (b : has (vars_of c.right) k ≡ true). (d, (0, omega arith, refl), inr (term_var values d.right c.right k first.right b)))
    (λ (b : has (check_vars cs) k ≡ true). let x = checks_vars values ds cs k h.1 b in (x.0, (suc x.1.0, (let l = x.1.1 in omega arith), x.1.2), x.2))
    (has_either (vars_of c.right) (check_vars cs) k a))
    (has_either (vars_of c.left) (vars_of c.right ++ check_vars cs) k m)

-- ---- the codes of fitting valuations

values_agree : (values : List Value) (terms : List CodedSymbol) (v w : ℕ → ℕ) → ((k : ℕ) → has (term_vars terms) k ≡ true → v k ≡ w k) → term_values values terms v ≡ term_values values terms w
values_agree values [] v w h = refl
values_agree values (t ∷ terms) v w h =
    let first : code_of v t ≡ code_of w t = code_same v w t (λ k m. h k (has_first (vars_of t) (term_vars terms) k m)) in
    let rest : term_values values terms v ≡ term_values values terms w = values_agree values terms v w (λ k m. h k (has_second (vars_of t) (term_vars terms) k m)) in
    ap (λ c. decode values c ∷ term_values values terms v) first ∙ ap (λ ys. decode values (code_of w t) ∷ ys) rest

tail_same : (x y : Value) (xs ys : List Value) → x ∷ xs ≡ y ∷ ys → (x ≡ y) × (xs ≡ ys)
tail_same x y xs ys e = (cc, cc)

var_same : (values : List Value) (t : CodedSymbol) (v w : ℕ → ℕ) (k : ℕ) → decode values (code_of v t) ≡ decode values (code_of w t) → has (vars_of t) k ≡ true → decode values (v k) ≡ decode values (w k)
var_same values (Code c) v w k e h = absurd (true≢false (sym h))
var_same values (Variable j) v w k e h =
    let f : j ≡ k = ⊎_elim (λ (u : nat_eq j k ≡ true). grind (arith, nat_tests, u)) (λ (u : nat_eq j k ≡ false). grind (arith, nat_tests, u, h)) (cases_Bool (nat_eq j k)) in
    ap (λ i. decode values (v i)) (sym f) ∙ e ∙ ap (λ i. decode values (w i)) f

values_back : (values : List Value) (terms : List CodedSymbol) (v w : ℕ → ℕ) → term_values values terms v ≡ term_values values terms w → (k : ℕ) → has (term_vars terms) k ≡ true → decode values (v k) ≡ decode values (w k)
values_back values [] v w e k h = absurd (true≢false (sym h))
values_back values (t ∷ terms) v w e k h =
    let s = tail_same (decode values (code_of v t)) (decode values (code_of w t)) (term_values values terms v) (term_values values terms w) e in
    ⊎_elim
    (λ (a : has (vars_of t) k ≡ true). var_same values t v w k s.0 a)
    (λ (a : has (term_vars terms) k ≡ true). values_back values terms v w s.1 k a)
    (has_either (vars_of t) (term_vars terms) k h)

-- a variable of some edge stands at a place of it
pub record StandsAmong (es : List (Edge ℕ)) (k : ℕ) : Type 0 where
  pub number : ℕ
  pub edge : Edge ℕ
  pub low : number < length es
  pub is : get_or es number edge ≡ edge
  pub place : ℕ
  pub place_low : place < length edge.vars
  pub place_is : get_or edge.vars place 0 ≡ k

stands_among : (es : List (Edge ℕ)) (k : ℕ) → among es k ≡ true → StandsAmong es k
stands_among es k h =
    let x = Any-from_list_any (λ (e : Edge ℕ). has e.vars k) es h in
    let y = Any-from_list_any (λ j. nat_eq j k) x.1.vars x.4 in
    let t = y.4 in
    let e : y.1 ≡ k = grind (arith, nat_tests, t) in
    record { number = x.0; edge = x.1; low = x.2; is = x.3; place = y.0; place_low = y.2; place_is = get_or_default x.1.vars y.0 0 y.1 y.2 ∙ y.3 ∙ e }

module _ (values : List Value) (es : List (Edge ℕ)) (coded : All (IsCoded values) es) (k : ℕ) (there : among es k ≡ true) where
  code_below : (w : ℕ → ℕ) → FitsAll w es → w k < length values
  code_below w f =
      let s = stands_among es k there in
      let fit : Fits w s.edge = subst (λ (e : Edge ℕ). Fits w e) s.is (f s.number s.edge s.low) in
      let c : IsCoded values s.edge = subst (IsCoded values) s.is (coded s.number s.edge s.low) in
      let below : AreBelow (map w s.edge.vars) (length values) = All-contains (λ r. AreBelow r (length values)) s.edge.rows (map w s.edge.vars) c fit in
      let n = length-map s.edge.vars w in
      let low = s.place_low in
      let at : get_or (map w s.edge.vars) s.place 0 < length values = below s.place 0 (omega arith) in
      let e : get_or (map w s.edge.vars) s.place 0 ≡ w k = get_or-map w s.edge.vars s.place 0 0 low ∙ ap w s.place_is in
      omega arith

  value_back : (v : ℕ → Value) → FitsAll v (meanings values es) → v k ≡ decode values (place_in values (v k))
  value_back v f =
      let s = stands_among es k there in
      let n = length-map es (meaning values) in
      let sl = s.low in
      let fit : Fits v (meaning values s.edge) =
      subst (Fits v) (get_or-map (meaning values) es s.number s.edge (meaning values s.edge) sl ∙ ap (meaning values) s.is) (f s.number (meaning values s.edge) (omega arith)) in
      let c : IsCoded values s.edge = subst (IsCoded values) s.is (coded s.number s.edge sl) in
      let w = Contains-map_source (map (decode values)) s.edge.rows (map v s.edge.vars) fit in
      let below : AreBelow w.0 (length values) = All-contains (λ r. AreBelow r (length values)) s.edge.rows w.0 c w.1 in
      let long : length w.0 ≡ length s.edge.vars = sym (length-map w.0 (decode values)) ∙ ap length w.2 ∙ length-map s.edge.vars v in
      let pl = s.place_low in
      let I : Value = Int (pos 0) in
      let at : decode values (get_or w.0 s.place 0) ≡ v k =
      sym (get_or-map (decode values) w.0 s.place 0 I (omega arith)) ∙ ap (λ ys. get_or ys s.place I) w.2 ∙ get_or-map v s.edge.vars s.place 0 I pl ∙ ap v s.place_is in
      sym (placed values (v k) (get_or w.0 s.place 0) (below s.place 0 (omega arith)) at).is

-- ---- a task as a body

pub record IsBodyOf (tables : List Stored) (values : List Value) (task : Task) (es : List (Edge ℕ)) (cs : List Check) (ts : List CodedSymbol) : Type 0 where
  pub exact : (v : ℕ → Value) → All (Agrees tables v) task.rows ↔ FitsAll v (meanings values es)
  pub coded : All (IsCoded values) es
  pub all : (k : ℕ) → Occurs task k → among es k ≡ true
  pub checks : AreChecksOf values task.comparisons cs
  pub terms : AreSymbolTerms values task.outputs ts
  pub apart : AreApart values

pub body_of :
    (tables : List Stored) (a b c : List Value) (task : Task) (es fs : List (Edge ℕ)) (checks : List Check) (terms : List CodedSymbol) → AreRowEdges tables a task es → HasSomeEdge es fs → Extends a b → AreChecksOf b task.comparisons checks → Extends b c → AreSymbolTerms c task.outputs terms
    → Extends a c → AreApart c → IsBodyOf tables c task fs checks terms
body_of tables a b c task es fs checks terms edges some first are_checks second are_terms more apart = record {
  exact = λ v. (
    λ all. subst (FitsAll v) (sym (meanings_same a c more fs coded)) ((fitting v).0 ((edges.exact v).0 all)),
    λ f. (edges.exact v).1 ((fitting v).1 (subst (FitsAll v) (meanings_same a c more fs coded) f)),
  );
  coded = edges_up a c fs more coded;
  all = λ k o.
      let t = edges.all k o.0 o.1 in
      ⊎_elim
      (λ (same : es ≡ fs). subst (λ (es : List (Edge ℕ)). among es k ≡ true) same t)
      (λ (unit : (es ≡ []) × (fs ≡ record { vars = []; rows = [] ∷ [] } ∷ [])). absurd (true≢false (sym t ∙ ap (λ (es : List (Edge ℕ)). among es k) unit.0)))
      some.1;
  checks = checks_up b c task.comparisons checks second are_checks;
  terms = are_terms;
  apart = apart;
}
  where
    coded : All (IsCoded a) fs
    coded = ⊎_elim
        (λ (same : es ≡ fs). subst (λ (es : List (Edge ℕ)). All (IsCoded a) es) same edges.coded)
        (λ (unit : (es ≡ []) × (fs ≡ record { vars = []; rows = [] ∷ [] } ∷ [])).
        let C : Edge ℕ → Type 0 = IsCoded a in
        let B : List ℕ → Type 0 = λ r. AreBelow r (length a) in
        let L : ℕ → Type 0 = λ c. c < length a in
        let e : Edge ℕ = record { vars = []; rows = [] ∷ [] } in
        subst (λ (fs : List (Edge ℕ)). All C fs) (sym unit.1) (All-cons C e [] (All-cons B [] [] (All-nil L) (All-nil B)) (All-nil C)))
        some.1

    fitting : (v : ℕ → Value) → FitsAll v (meanings a es) ↔ FitsAll v (meanings a fs)
    fitting v = ⊎_elim
        (λ (same : es ≡ fs). (subst (λ (es : List (Edge ℕ)). FitsAll v (meanings a es)) same, subst (λ (es : List (Edge ℕ)). FitsAll v (meanings a es)) (sym same)))
        (λ (unit : (es ≡ []) × (fs ≡ record { vars = []; rows = [] ∷ [] } ∷ [])).
        let e : Edge ℕ = record { vars = []; rows = [] ∷ [] } in
        let P : Edge Value → Type 0 = λ e. Fits v e in
        let fit : Fits v (meaning a e) = (0, omega arith, refl) in (
          λ f. subst (λ (fs : List (Edge ℕ)). FitsAll v (meanings a fs)) (sym unit.1) (All-cons P (meaning a e) [] fit (All-nil P)),
          λ f. subst (λ (es : List (Edge ℕ)). FitsAll v (meanings a es)) (sym unit.0) (All-nil P),
        ))
        some.1

module _ (tables : List Stored) (values : List Value) (task : Task) (es : List (Edge ℕ)) (checks : List Check) (terms : List CodedSymbol) (is : IsTask tables task) (body : IsBodyOf tables values task es checks terms) where
  term_there : (k : ℕ) → has (term_vars terms) k ≡ true → among es k ≡ true
  term_there k h = body.all k (is.occur.outputs k (terms_vars values task.outputs terms k body.terms h))

  compared_occurs : (d : Compared) (k : ℕ) → Contains task.comparisons d → (d.left ≡ Var k) ⊎ (d.right ≡ Var k) → Occurs task k
  compared_occurs d k m e = ⊎_elim (λ (l : d.left ≡ Var k). is.occur.left d k m l) (λ (r : d.right ≡ Var k). is.occur.right d k m r) e

  pub are_there : (needed : List ℕ) → needed ≡ term_vars terms → AreThere needed checks es
  are_there needed e k h =
      ⊎_elim
      (λ (a : has needed k ≡ true). term_there k (ap (λ ks. has ks k) (sym e) ∙ a))
      (λ (a : has (check_vars checks) k ≡ true). let x = checks_vars values task.comparisons checks k body.checks a in body.all k (compared_occurs x.0 k x.1 x.2))
      (has_either needed (check_vars checks) k h)

  -- a valuation by codes gives an output
  to_output : (w : ℕ → ℕ) → FitsAll w es → all_hold values checks w ≡ true → IsOutput tables task (term_values values terms w)
  to_output w f p =
      let v : ℕ → Value = λ k. decode values (w k) in
      record {
        valuation = v;
        agrees = (body.exact v).1 (fits_all_values values w es f);
        holds = to_holds values w v task.comparisons checks body.checks (λ d k m e. refl) p;
        gives = syms_values values w v task.outputs terms body.terms (λ k m. refl);
      }

  -- an output is that of a valuation by codes
  pub record ByCodes (h : List Value) : Type 0 where
    pub valuation : ℕ → ℕ
    pub fits : FitsAll valuation es
    pub passes : all_hold values checks valuation ≡ true
    pub gives : term_values values terms valuation ≡ h

  to_codes : (h : List Value) → IsOutput tables task h → ByCodes h
  to_codes h o =
      let v = o.valuation in
      let w : ℕ → ℕ = λ k. place_in values (v k) in
      let f = (body.exact v).0 o.agrees in
      let back : (k : ℕ) → Occurs task k → v k ≡ decode values (w k) = λ k c. value_back values es body.coded k (body.all k c) v f in
      record {
        valuation = w;
        fits = fits_all_codes values body.apart v es body.coded f;
        passes = from_holds values w v task.comparisons checks body.checks (λ d k m e. back k (compared_occurs d k m e)) o.holds;
        gives = sym (syms_values values w v task.outputs terms body.terms (λ k m. back k (is.occur.outputs k m))) ∙ o.gives;
      }

  -- where nothing is given, there is no output
  pub no_outputs : IsEmpty es (all_hold values checks) → (h : List Value) → IsOutput tables task h → ⊥
  no_outputs empty h o = let c = to_codes h o in empty c.valuation c.fits c.passes

  module _ (needed : List ℕ) (needed_is : needed ≡ term_vars terms) where
    agreeing : (v w : ℕ → ℕ) → HaveSameValues needed v w → term_values values terms v ≡ term_values values terms w
    agreeing v w same = values_agree values terms v w (λ k h. agree_at v w needed same k (ap (λ ks. has ks k) needed_is ∙ h))

    -- what the last edge shows are the outputs
    pub shown_outputs : (g : Edge ℕ) → Keeps needed es (all_hold values checks) (g ∷ []) always → (h : List Value) → IsShown values g terms h ↔ IsOutput tables task h
    shown_outputs g keeps h = (
      λ s.
          let w = keeps.1 s.valuation (All-cons (λ e. Fits s.valuation e) g [] s.fits (All-nil (λ e. Fits s.valuation e))) refl in
          subst (IsOutput tables task) (sym (agreeing s.valuation w.valuation w.same) ∙ s.gives) (to_output w.valuation w.fits w.passes),
      λ o.
          let c = to_codes h o in
          let w = keeps.0 c.valuation c.fits c.passes in
          record {
            valuation = w.valuation;
            fits = All-head (λ e. Fits w.valuation e) g [] w.fits;
            gives = sym (agreeing c.valuation w.valuation w.same) ∙ c.gives;
          },
    )

    pub shown_more : (g : Edge ℕ) (n : ℕ) → Keeps needed es (all_hold values checks) (g ∷ []) always → AreMoreThan n (IsShown values g terms) → AreMoreThan n (IsOutput tables task)
    shown_more g n keeps more = record { member = more.member; each = λ i l. (shown_outputs g keeps (more.member i)).0 (more.each i l); differ = more.differ }

    module _ (n : ℕ) (more : HasMore needed (Some n) es (all_hold values checks)) where
      bound_is : more.bound ≡ n
      bound_is = sym (same_Some n more.bound more.is)

      given_at : (i : ℕ) → i ≤ n → IsGiven needed es (all_hold values checks) (more.many.member i)
      given_at i l = more.many.each i (let e = bound_is in omega arith)

      abbrev output_by : (i : ℕ) → (n < i) ⊎ (i ≤ n) → List Value
      output_by i (inl l) = []
      output_by i (inr l) = term_values values terms (given_at i l).valuation

      is_output : (i : ℕ) (x : (n < i) ⊎ (i ≤ n)) → i ≤ n → IsOutput tables task (output_by i x)
      is_output i (inl l) m = absurd (omega arith)
      is_output i (inr l) m = let g = given_at i l in to_output g.valuation g.fits g.passes

      codes_same : (i j : ℕ) (x : (n < i) ⊎ (i ≤ n)) (y : (n < j) ⊎ (j ≤ n)) → i ≤ n → j ≤ n → output_by i x ≡ output_by j y → more.many.member i ≡ more.many.member j
      codes_same i j (inl l) y il jl e = absurd (omega arith)
      codes_same i j (inr l) (inl m) il jl e = absurd (omega arith)
      codes_same i j (inr l) (inr m) il jl e =
          let a = given_at i l in
          let b = given_at j m in
          let v = a.valuation in
          let w = b.valuation in
          sym a.gives
          ∙ agree_from v w needed (λ k h.
          let h' : has (term_vars terms) k ≡ true = ap (λ ks. has ks k) (sym needed_is) ∙ h in
          let there = term_there k h' in
          let vl = code_below values es body.coded k there v a.fits in
          let wl = code_below values es body.coded k there w b.fits in
          code_back values body.apart (v k) vl ∙ ap (place_in values) (values_back values terms v w e k h') ∙ sym (code_back values body.apart (w k) wl))
          ∙ b.gives

      pub more_outputs : AreMoreThan n (IsOutput tables task)
      more_outputs = record {
        member = λ i. output_by i (cases_lt n i);
        each = λ i l. is_output i (cases_lt n i) l;
        differ = λ i j l m e. more.many.differ i j l (let b = bound_is in omega arith) (codes_same i j (cases_lt n i) (cases_lt n j) (omega arith) m e);
      }

-- ---- no outputs

pub none_are_outputs : (tables : List Stored) (task : Task) (rows : List (List Value)) → rows ≡ [] → ((h : List Value) → IsOutput tables task h → ⊥) → AreOutputs tables task rows
none_are_outputs tables task rows e none =
    let P : List (List Value) → Type 0 = AreOutputs tables task in
    subst P (sym e) (record { exact = λ h. (λ c. absurd (let l = c.1 in omega arith), λ o. absurd (none h o)); ascending = sorted_nil compare_lists })

pub none_agree : (tables : List Stored) (task : Task) → NoneAgrees tables task → (h : List Value) → IsOutput tables task h → ⊥
none_agree tables task none h o = none o.valuation o.agrees

-- ---- terms by place

pub vars_at : (terms : List CodedSymbol) (i : ℕ) (d : CodedSymbol) (k : ℕ) → i < length terms → has (vars_of (get_or terms i d)) k ≡ true → has (term_vars terms) k ≡ true
vars_at [] i d k l h = absurd (omega arith)
vars_at (t ∷ terms) zero d k l h = has_first (vars_of t) (term_vars terms) k h
vars_at (t ∷ terms) (suc i) d k l h = has_second (vars_of t) (term_vars terms) k (vars_at terms i d k (omega arith) h)

pub spots_more : (vars : List ℕ) (terms : List CodedSymbol) (spots : List Spot) (i : ℕ) (d : CodedSymbol) (spot : Spot) → i < length terms → AreSpotsOf vars (take i terms) spots → HasTerm vars [] (get_or terms i d) spot → IsSpotIn (length vars) 0 spot → AreSpotsOf vars (take (i + 1) terms) (spots ++ spot ∷ [])
spots_more vars terms spots i d spot l h a b =
    AllZip-more (λ term spot. HasTerm vars [] term spot × IsSpotIn (length vars) 0 spot) terms spots (spots ++ spot ∷ []) i (get_or terms i d) spot l (get_or_default terms i d (get_or terms i d) l) h (a, b) refl

-- ---- the answers of what a body comes to

both_shown : (values : List Value) (terms : List CodedSymbol) (g : Edge ℕ) (r : Result (List (List Value)) ExecFault) → IfOk r (λ rows. (h : List Value) → Contains rows h ↔ IsShown values g terms h) → IfOk r (IsStrictlySortedBy compare_lists) → IfOk r (IsShownBy values terms (Whole g))
both_shown values terms g (Ok rows) a b = record { exact = a; ascending = b }
both_shown values terms g (Err e) a b = tt

pub whole_shown :
    (values : List Value) (terms : List CodedSymbol) (g : Edge ℕ) (merged : Merged) (r : Result (List (List Value)) ExecFault) → merged ≡ Whole g → IfOk r (λ rows. (h : List Value) → Contains rows h ↔ IsShown values g terms h) → IfOk r (IsStrictlySortedBy compare_lists)
    → IfOk r (IsShownBy values terms merged)
whole_shown values terms g merged r e a b = subst (λ (m : Merged). IfOk r (IsShownBy values terms m)) (sym e) (both_shown values terms g r a b)

pub whole_more : (values : List Value) (terms : List CodedSymbol) (n : ℕ) (g : Edge ℕ) (merged : Merged) (r : Result (List (List Value)) ExecFault) → merged ≡ Whole g → IfErr r (λ fault. fault ≡ More → AreMoreThan n (IsShown values g terms)) → IfErr r (λ fault. fault ≡ More → IsMoreBy values terms n merged)
whole_more values terms n g merged r e a = subst (λ (m : Merged). IfErr r (λ fault. fault ≡ More → IsMoreBy values terms n m)) (sym e) a

pub has_vars : (needed : List ℕ) (terms : List CodedSymbol) (most : Option ℕ) (es : List (Edge ℕ)) (s : (ℕ → ℕ) → Bool) (merged : Merged) → needed ≡ term_vars terms → IsMerged needed most es s merged → HasVars terms merged
has_vars needed terms most es s (Whole g) e m = λ k h. m.1 k (ap (λ ks. has ks k) e ∙ h)
has_vars needed terms most es s Over e m = tt
has_vars needed terms most es s Nothing e m = tt

module _ (tables : List Stored) (values : List Value) (task : Task) (es : List (Edge ℕ)) (checks : List Check) (terms : List CodedSymbol) (is : IsTask tables task) (body : IsBodyOf tables values task es checks terms) (needed : List ℕ) (needed_is : needed ≡ term_vars terms) (cap : ℕ) where
  outputs_by : (merged : Merged) (rows : List (List Value)) → IsMerged needed (Some cap) es (all_hold values checks) merged → IsShownBy values terms merged rows → AreOutputs tables task rows
  outputs_by (Whole g) rows m s =
      record {
        exact = λ h.
            let a = s.exact h in
            let b = shown_outputs tables values task es checks terms is body needed needed_is g m.0 h in
            (λ x. b.0 (a.0 x), λ x. a.1 (b.1 x));
        ascending = s.ascending;
      }
  outputs_by Over rows m s = absurd s
  outputs_by Nothing rows m s = none_are_outputs tables task rows s (no_outputs tables values task es checks terms is body m)

  more_by : (merged : Merged) → IsMerged needed (Some cap) es (all_hold values checks) merged → IsMoreBy values terms cap merged → AreMoreThan cap (IsOutput tables task)
  more_by (Whole g) m s = shown_more tables values task es checks terms is body needed needed_is g cap m.0 s
  more_by Over m s = more_outputs tables values task es checks terms is body needed needed_is cap m
  more_by Nothing m s = absurd s

  pub outputs_of : (merged : Merged) (r : Result (List (List Value)) ExecFault) → IsMerged needed (Some cap) es (all_hold values checks) merged → IfOk r (IsShownBy values terms merged) → IfOk r (AreOutputs tables task)
  outputs_of merged (Ok rows) m s = outputs_by merged rows m s
  outputs_of merged (Err e) m s = tt

  pub more_of : (merged : Merged) (r : Result (List (List Value)) ExecFault) → IsMerged needed (Some cap) es (all_hold values checks) merged → IfErr r (λ fault. fault ≡ More → IsMoreBy values terms cap merged) → IfErr r (λ fault. fault ≡ More → AreMoreThan cap (IsOutput tables task))
  more_of merged (Ok rows) m s = tt
  more_of merged (Err fault) m s = λ e. more_by merged m (s e)
