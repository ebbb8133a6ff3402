-- The rows that are put in are exactly what the three give the wanted variables, so one edge of them takes the place of the three.
use Rattle.std.proofs.Common.{◌≡◌, ◌∷◌, [], List, ℕ, Contains, ap, sym, subst, refl, ⊎_elim, arith}
use Rattle.std.specs.Prelude.{map}
use Rattle.su_exec.specs.inside.Bodies.{IsGiven}
use Rattle.su_exec.specs.inside.Edges.{Edge, always}
use Rattle.su_reduce.specs.Sheets.{Rows}
use Rattle.su_exec.proofs.Triples.{real_three, three_keeps}
use Rattle.su_exec.proofs.closing.join_three.Goals as goal
use Rattle.su_exec.proofs.closing.join_three.Goals.{In_ok-add_blocks}

-- what the blocks have given
module _ (c : In_ok-add_blocks) where
  abbrev gs : List (Edge ℕ)
  gs = c.args.a.now ∷ c.args.b.now ∷ c.args.c.now ∷ []

  abbrev vars : List ℕ
  vars = c.in_ok-vars.vars.items

  abbrev rows : List (List ℕ)
  rows = c.add_blocks.new.out.rows

  only : (r : List ℕ) → Contains rows r → IsGiven vars gs always r
  only r h =
      ⊎_elim
      (λ (o : Contains c.in_ok-out.out.rows r). absurd (let l = (subst (λ (x : Rows). Contains x.rows r) c.in_ok-out.ensures o).1 in omega arith))
      (λ (x : IsGiven c.deref-2.result.now gs always r). subst (λ (ks : List ℕ). IsGiven ks gs always r) c.deref-2.ensures.value x)
      (c.in_ok-add_blocks.ensures.only r h)

  all : (r : List ℕ) → IsGiven vars gs always r → Contains rows r
  all r x = c.in_ok-add_blocks.ensures.all r (subst (λ (ks : List ℕ). IsGiven ks gs always r) (sym c.deref-2.ensures.value) x)

pub new-requires-2-clause-real : goal.new-requires-2-clause-real
new-requires-2-clause-real c =
    let d = (goal.at.new-requires-2-clause-real c).In_ok-add_blocks in
    let same : c.into_rows.result.rows ≡ rows d = ap (λ (x : Rows). x.rows) c.into_rows.ensures.rows in
    real_three c.args.a.now c.args.b.now c.args.c.now (record { vars = vars d; rows = c.into_rows.result.rows }) (λ r h. only d r (subst (λ (rs : List (List ℕ)). Contains rs r) same h))

pub returns-clause-keeps : goal.returns-clause-keeps
returns-clause-keeps c =
    let d = (goal.at.returns-clause-keeps c).In_ok-add_blocks in
    let same : c.into_rows.result.rows ≡ rows d = ap (λ (x : Rows). x.rows) c.into_rows.ensures.rows in
    rw c.new-2.ensures
    (three_keeps c.args.a.now c.args.b.now c.args.c.now (record { vars = vars d; rows = c.into_rows.result.rows })
    (λ r h. only d r (subst (λ (rs : List (List ℕ)). Contains rs r) same h))
    (λ v f. subst (λ (rs : List (List ℕ)). Contains rs (map v (vars d))) (sym same) (all d (map v (vars d)) (record { valuation = v; fits = f; passes = refl; gives = refl }))))

pub returns-clause-wanted : goal.returns-clause-wanted
returns-clause-wanted c = λ k h w. rw c.new-2.ensures (c.in_ok-vars.ensures.all k h w)
