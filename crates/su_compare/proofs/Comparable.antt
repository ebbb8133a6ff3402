-- The terms of queries that ask for equalities alone compare nothing.
use Rattle.std.proofs.Common.{◌≡◌, ⊎_elim, ℕ, zero, suc, ◌*◌, ◌≤◌, true, false, cond, List, [], ◌∷◌, map, flat_map, length, get_or, Contains, All, refl, sym, ap, ◌∙◌, subst, arith, None}
use Rattle.std.specs.List.{range_with_len}
use Rattle.std.specs.Cmp.{first_so, second_so}
use Rattle.std.specs.Ordering.{nat_cmp}
use Rattle.std.specs.FinSet.{FinSet}
use Rattle.std.proofs.lemmas.Bool.Decides.{nat_tests}
use Rattle.std.proofs.lemmas.List.{length-map, length-append}
use Rattle.std.proofs.lemmas.List.Elements.{All-nil, All-cons}
use Rattle.su_base.proofs.Items.{Contains-later, Contains-cases, Contains-map_source}
use Rattle.std.proofs.lemmas.List.FromFn.{length-range_with_len}
use Rattle.su_where.specs.declared.operators.Op.{Op}
use Rattle.su_where.specs.declared.operators.Op.TheVariants.{Equal, NotEqual, Less, LessEqual, Greater, GreaterEqual}
use Rattle.su_where.specs.declared.literals.Literal.{Literal}
use Rattle.su_where.specs.Disjunct.{disjuncts_of}
use Rattle.su_tableau.specs.declared.symbols.Sym.{Sym}
use Rattle.su_tableau.specs.declared.symbols.Sym.TheVariants.{Const, Var}
use Rattle.su_schema.specs.Valid as schemas
use Rattle.su_schema.specs.SchemaValue.{SchemaValue}
use Rattle.su_query.specs.declared.resolving.Resolved.{Resolved}
use Rattle.su_steps.specs.declared.results.Term.{Term}
use Rattle.su_steps.specs.Objects.{width}
use Rattle.su_steps.specs.Choices.{choices, origins_of}
use Rattle.su_steps.specs.PairSymbols.{SymbolComparison, compared}
use Rattle.su_steps.specs.Evaluated.{is_evaluated, left_over}
use Rattle.su_tableau.specs.Tableaux.{Tab}
use Rattle.su_steps.specs.Cases.{Case, comparisons_of, HaveTableau, Gives, IsOutOf}
use Rattle.su_steps.specs.Terms.{case_of, cases}
use Rattle.su_steps.specs.Limits.{disjunct_count}
use Rattle.su_steps.specs.Refusals.{IsAccepted}
use Rattle.su_steps.specs.Laws.{TermsAreValidAndTyped}
use Rattle.su_compare.specs.Equalities.{asks_equality, has_only_equalities}
use Rattle.su_compare.specs.Outputs.{output_kinds}
use Rattle.su_compare.specs.Within.{AreOf}
use Rattle.su_compare.specs.Comparable.{IsPlain}
use Rattle.su_compare.specs.Laws.{TermsAreComparable}
use Rattle.su_compare.proofs.OnlyEqual.{are_equalities, all_equalities, only_equalities}
use Rattle.su_steps.proofs.Outs.{AreInTurn, terms_of}

-- ---- comparisons

evaluated_same : (x : Sym) → is_evaluated x x ≡ true
evaluated_same (Const a) = refl
evaluated_same (Var k) = grind (arith, nat_tests)

-- a symbol with itself is evaluated
none_left_over : (name : Sym → Sym) (cs : List SymbolComparison) → ((c : SymbolComparison) → Contains cs c → name c.left ≡ name c.right) → left_over name cs ≡ []
none_left_over name [] same = refl
none_left_over name (c ∷ cs) same =
    let e : is_evaluated (name c.left) (name c.right) ≡ true = ap (λ y. is_evaluated (name c.left) y) (sym (same c (0, omega arith, refl))) ∙ evaluated_same (name c.left) in
    ap (λ b. cond b (left_over name cs) (record { left = name c.left; op = c.op; right = name c.right } ∷ left_over name cs)) e
    ∙ none_left_over name cs (λ d k. same d (Contains-later c cs d k))

is_equal : (op : Op) → asks_equality op false ≡ true → op ≡ Equal
is_equal Equal h = refl
is_equal NotEqual h = absurd (cc)
is_equal Less h = absurd (cc)
is_equal LessEqual h = absurd (cc)
is_equal Greater h = absurd (cc)
is_equal GreaterEqual h = absurd (cc)

literal_at : (d : List Literal) (l : Literal) → are_equalities d ≡ true → Contains d l → asks_equality l.op false ≡ true
literal_at [] l all has = let low = has.1 in absurd (omega arith)
literal_at (x ∷ xs) l all has =
    ⊎_elim
    (λ (e : x ≡ l). subst (λ y. asks_equality y.op false ≡ true) e (first_so (asks_equality x.op false) (are_equalities xs) all))
    (λ (later : Contains xs l). literal_at xs l (second_so (asks_equality x.op false) (are_equalities xs) all) later)
    (Contains-cases x xs l has)

disjunct_at : (ds : List (List Literal)) (i : ℕ) → all_equalities ds ≡ true → are_equalities (get_or ds i []) ≡ true
disjunct_at [] i all = refl
disjunct_at (d ∷ ds) zero all = first_so (are_equalities d) (all_equalities ds) all
disjunct_at (d ∷ ds) (suc i) all = disjunct_at ds i (second_so (are_equalities d) (all_equalities ds) all)

-- ---- terms

module _ (schema : SchemaValue) (maximal : List (FinSet nat_cmp)) (q : Resolved) (only : has_only_equalities q.cond ≡ true) where
  -- no comparison of a case is left over
  case_plain : (case : Case) (t : Tab) → (h : HaveTableau schema q (origins_of schema maximal case.choice) (comparisons_of schema q case.disjunct) t) → left_over h.name (comparisons_of schema q case.disjunct) ≡ []
  case_plain case t h =
      let d = comparisons_of schema q case.disjunct in
      let literals = get_or (disjuncts_of q.cond) case.disjunct [] in
      let all : are_equalities literals ≡ true = disjunct_at (disjuncts_of q.cond) case.disjunct (only_equalities q.cond only) in
      none_left_over h.name d (λ c has.
      let l = Contains-map_source (compared (width schema) q.places) literals c has in
      let equal : c.op ≡ Equal = ap (λ x. x.op) (sym l.2) ∙ is_equal l.0.op (literal_at literals l.0 all l.1) in
      h.naming.one_name c.left c.right (λ label closed. closed.equalities c has equal))

  -- the term has the query's outputs and compares nothing
  abbrev Bare : Term → Type 0
  Bare t = (t.tableau.outputs ≡ length q.outputs) × (t.tableau.operators ≡ [])

  gives_bare : (case : Case) (t : Term) → Gives schema maximal q case t → Bare t
  gives_bare case t gives =
      let h = gives.tableau in
      (ap (λ x. x.outputs) h.is, ap (λ x. x.operators) h.is ∙ ap (map (λ c. c.op)) (case_plain case t.tableau h))

  terms_bare : (cs : List Case) (ts : List Term) → AreInTurn schema maximal q cs ts → All Bare ts × (length ts ≤ length cs)
  terms_bare [] ts is = (subst (All Bare) (sym is) (All-nil Bare), let n : length ts ≡ 0 = ap length is in omega arith)
  terms_bare (case ∷ rest) ts are =
      ⊎_elim
      (λ (none : IsOutOf schema maximal q case None × AreInTurn schema maximal q rest ts). let r = terms_bare rest ts none.1 in let n = r.1 in (r.0, omega arith))
      (λ (some : (t : Term) × (later : List Term) × (ts ≡ t ∷ later) × Gives schema maximal q case t × AreInTurn schema maximal q rest later).
      let r = terms_bare rest some.1 some.4 in
      let n = r.1 in
      let len : length ts ≡ suc (length some.1) = ap length some.2 in
      (subst (All Bare) (sym some.2) (All-cons Bare some.0 some.1 (gives_bare case some.0 some.3) r.0), omega arith))
      are

length-flat : {X Y : Type 0} (f : X → List Y) (n : ℕ) (xs : List X) → ((x : X) → length (f x) ≡ n) → length (flat_map f xs) ≡ length xs * n
length-flat f n [] each = grind arith
length-flat f n (x ∷ xs) each = let i = length-flat f n xs each in let e = each x in grind (arith, length-append)

length-cases : (schema : SchemaValue) (maximal : List (FinSet nat_cmp)) (q : Resolved) → length (cases schema maximal q) ≡ disjunct_count q * length (choices schema maximal q)
length-cases schema maximal q =
    length-flat (λ i. map (case_of i) (choices schema maximal q)) (length (choices schema maximal q)) (range_with_len 0 (disjunct_count q)) (λ i. length-map (choices schema maximal q) (case_of i))
    ∙ ap (λ n. n * length (choices schema maximal q)) (length-range_with_len 0 (disjunct_count q))

-- the terms are few and plain
terms_plain : TermsAreValidAndTyped → (schema : SchemaValue) (maximal : List (FinSet nat_cmp)) (q : Resolved) (terms : List Term) → schemas.IsValid schema → AreOf schema maximal q terms → IsAccepted schema maximal q → has_only_equalities q.cond ≡ true
    → All (IsPlain schema (length q.outputs)) terms × (length terms ≤ 256)
terms_plain typing schema maximal q terms valid of' accepted only =
    let bare = terms_bare schema maximal q only (cases schema maximal q) terms (terms_of schema maximal q terms of'.terms_are) in
    let typed = typing schema maximal q terms valid of'.resolved of'.terms_are in
    let few = accepted.few_terms in
    let n = length-cases schema maximal q in
    let m = bare.1 in
    (λ i d low. record { typed = (typed i d low).1; outputs_are = (bare.0 i d low).0; operators = (bare.0 i d low).1 }, omega arith)

outputs_same : (schema : SchemaValue) (p q : Resolved) → output_kinds schema p ≡ output_kinds schema q → length p.outputs ≡ length q.outputs
outputs_same schema p q e = let n = ap length e in grind (arith, length-map)

pub comparable : TermsAreValidAndTyped → TermsAreComparable
comparable typing schema maximal p q first second valid of_p of_q accepted_p accepted_q only_p only_q same =
    let a = terms_plain typing schema maximal p first valid of_p accepted_p only_p in
    let b = terms_plain typing schema maximal q second valid of_q accepted_q only_q in
    record {
      outputs = length p.outputs;
      few_first = a.1;
      few_second = b.1;
      first_plain = a.0;
      second_plain = subst (λ n. All (IsPlain schema n) second) (sym (outputs_same schema p q same)) b.0;
    }
