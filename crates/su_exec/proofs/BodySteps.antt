-- Steps of a body with checks.
use Rattle.std.proofs.Common.{◌≡◌, ℕ, ◌⊎◌, ◌++◌, true, false, List, [], ◌∷◌, refl, ap, ◌∙◌, inl, inr, ⊎_elim, arith}
use Rattle.std.specs.Prelude.{nat_eq, ◌&&◌}
use Rattle.std.proofs.lemmas.Bool.{cases_Bool}
use Rattle.std.proofs.lemmas.Bool.Decides.{nat_tests}
use Rattle.std.proofs.lemmas.List.Elements.{All-cons, All-nil, All-head, All-tail}
use Rattle.std.proofs.lemmas.List.Folds.{list_any-append}
use Rattle.su_base.specs.declared.values.Value.{Value}
use Rattle.su_where.specs.Operator.{compares}
use Rattle.su_exec.specs.declared.checks.CodedSymbol.{CodedSymbol}
use Rattle.su_exec.specs.declared.checks.CodedSymbol.TheVariants.{Code, Variable}
use Rattle.su_exec.specs.declared.checks.Check.{Check}
use Rattle.su_exec.specs.inside.Bodies.{AreThere}
use Rattle.su_exec.specs.inside.Checks.{all_hold, check_holds, check_vars, code_of, vars_of}
use Rattle.su_reduce.specs.Codes.{decode}
use Rattle.su_exec.specs.inside.Edges.{Edge, Fits, has, among, HaveSameValues, Same}
use Rattle.su_exec.proofs.PartSteps.{agree_at}
use Rattle.su_exec.proofs.Parts.{put_in}
use Rattle.su_exec.proofs.Splits.{Splits}

-- ---- checks depend on their variables

pub has_first : (xs ys : List ℕ) (k : ℕ) → has xs k ≡ true → has (xs ++ ys) k ≡ true
has_first xs ys k h = let e = list_any-append (λ x. nat_eq x k) xs ys in grind (arith, e, h)

pub has_second : (xs ys : List ℕ) (k : ℕ) → has ys k ≡ true → has (xs ++ ys) k ≡ true
has_second xs ys k h =
    let e = list_any-append (λ x. nat_eq x k) xs ys in
    ⊎_elim (λ (t : has xs k ≡ true). has_first xs ys k t) (λ (t : has xs k ≡ false). grind (arith, e, h, t)) (cases_Bool (has xs k))

pub has_either : (xs ys : List ℕ) (k : ℕ) → has (xs ++ ys) k ≡ true → (has xs k ≡ true) ⊎ (has ys k ≡ true)
has_either xs ys k h =
    let e = list_any-append (λ x. nat_eq x k) xs ys in
    ⊎_elim (λ (t : has xs k ≡ true). inl t) (λ (t : has xs k ≡ false). inr (grind (arith, e, h, t))) (cases_Bool (has xs k))

pub code_same : (v w : ℕ → ℕ) (t : CodedSymbol) → ((k : ℕ) → has (vars_of t) k ≡ true → v k ≡ w k) → code_of v t ≡ code_of w t
code_same v w (Code c) h = refl
code_same v w (Variable k) h = h k (grind (arith, nat_tests))

pub hold_agree : (values : List Value) (cs : List Check) (v w : ℕ → ℕ) → ((k : ℕ) → has (check_vars cs) k ≡ true → v k ≡ w k) → all_hold values cs v ≡ all_hold values cs w
hold_agree values [] v w h = refl
hold_agree values (c ∷ cs) v w h =
    let left = code_same v w c.left (λ k m. h k (has_first (vars_of c.left) (vars_of c.right ++ check_vars cs) k m)) in
    let right = code_same v w c.right (λ k m. h k (has_second (vars_of c.left) (vars_of c.right ++ check_vars cs) k (has_first (vars_of c.right) (check_vars cs) k m))) in
    let rest = hold_agree values cs v w (λ k m. h k (has_second (vars_of c.left) (vars_of c.right ++ check_vars cs) k (has_second (vars_of c.right) (check_vars cs) k m))) in
    let first : check_holds values v c ≡ check_holds values w c =
    ap (λ x. compares c.op (decode values x) (decode values (code_of v c.right))) left ∙ ap (λ y. compares c.op (decode values (code_of w c.left)) (decode values y)) right in
    ap (λ b. b && all_hold values cs v) first ∙ ap (λ b. check_holds values w c && b) rest

pub hold_test : (values : List Value) (cs : List Check) (v w : ℕ → ℕ) → HaveSameValues (check_vars cs) v w → all_hold values cs v ≡ all_hold values cs w
hold_test values cs v w same = hold_agree values cs v w (λ k m. agree_at v w (check_vars cs) same k m)

-- ---- moving an edge

pub front_out : (a : Edge ℕ) (rs : List (Edge ℕ)) → Splits (a ∷ rs) (a ∷ []) rs
front_out a rs v =
    let P : Edge ℕ → Type 0 = λ e. Fits v e in (
      λ all. (All-cons P a [] (All-head P a rs all) (All-nil P), All-tail P a rs all),
      λ parts. All-cons P a rs (All-head P a [] parts.0) parts.1,
    )

pub moved_back : (a : Edge ℕ) (rs : List (Edge ℕ)) → Same (a ∷ rs) (rs ++ a ∷ [])
moved_back a rs v = (
  λ all. (put_in rs a v).1 ((front_out a rs v).0 all),
  λ all. (front_out a rs v).1 ((put_in rs a v).0 all),
)

-- ---- needed variables stay

pub among_first : (es fs : List (Edge ℕ)) (k : ℕ) → among es k ≡ true → among (es ++ fs) k ≡ true
among_first es fs k h = let e = list_any-append (λ (e : Edge ℕ). has e.vars k) es fs in grind (arith, e, h)

pub among_last : (es : List (Edge ℕ)) (g : Edge ℕ) (k : ℕ) → has g.vars k ≡ true → among (es ++ g ∷ []) k ≡ true
among_last es g k h =
    let e = list_any-append (λ (e : Edge ℕ). has e.vars k) es (g ∷ []) in
    let f : among (g ∷ []) k ≡ true = grind (arith, h) in
    ⊎_elim (λ (t : among es k ≡ true). among_first es (g ∷ []) k t) (λ (t : among es k ≡ false). grind (arith, e, f, t)) (cases_Bool (among es k))

-- a part is merged into g
pub there_step :
    (needed : List ℕ) (olds news : List Check) (es gs rs : List (Edge ℕ)) (g : Edge ℕ)
    → AreThere needed olds es → ((k : ℕ) → among es k ≡ true → (among gs k ≡ true) ⊎ (among rs k ≡ true)) → ((k : ℕ) → has (check_vars news) k ≡ true → has (check_vars olds) k ≡ true)
    → ((k : ℕ) → among gs k ≡ true → has needed k ≡ true → has g.vars k ≡ true) → ((k : ℕ) → among gs k ≡ true → has (check_vars news) k ≡ true → has g.vars k ≡ true) → AreThere needed news (rs ++ g ∷ [])
there_step needed olds news es gs rs g there parts fewer in_needed in_checks k h =
    let old : has (needed ++ check_vars olds) k ≡ true =
    ⊎_elim (λ (t : has needed k ≡ true). has_first needed (check_vars olds) k t) (λ (t : has (check_vars news) k ≡ true). has_second needed (check_vars olds) k (fewer k t)) (has_either needed (check_vars news) k h) in
    ⊎_elim
    (λ (t : among gs k ≡ true).
    ⊎_elim (λ (n : has needed k ≡ true). among_last rs g k (in_needed k t n)) (λ (n : has (check_vars news) k ≡ true). among_last rs g k (in_checks k t n)) (has_either needed (check_vars news) k h))
    (λ (t : among rs k ≡ true). among_first rs (g ∷ []) k t)
    (parts k (there k old))

-- the parts of a body whose first edge is taken out
pub front_parts : (a : Edge ℕ) (rs : List (Edge ℕ)) (k : ℕ) → among (a ∷ rs) k ≡ true → (among (a ∷ []) k ≡ true) ⊎ (among rs k ≡ true)
front_parts a rs k h =
    ⊎_elim (λ (t : among rs k ≡ true). inr t) (λ (t : among rs k ≡ false). inl (grind (arith, h, t))) (cases_Bool (among rs k))
