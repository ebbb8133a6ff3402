-- The rows that are put in are the wanted columns of the candidates so far, and that is what they give the variables.
use Rattle.std.proofs.Common.{◌≡◌, ◌<◌, ◌≤◌, ◌∷◌, ◌∙◌, [], List, ℕ, length, get_or, Contains, ap, sym, subst, inr, ⊎_elim, rules, arith}
use Rattle.std.proofs.lemmas.Bool.{cases_lt}
use Rattle.su_exec.specs.inside.Bodies.{IsGiven}
use Rattle.su_exec.specs.inside.Edges.{Edge, always}
use Rattle.su_reduce.specs.Sheets.{AreBelow, pick}
use Rattle.su_exec.proofs.Triples.{given_row, row_given}
use Rattle.su_exec.proofs.closing.add_given.Goals as goal

pub loop-i-preserved : goal.loop-i-preserved
loop-i-preserved c =
    let g : Edge ℕ = c.args.g.now in
    let i = c.loop-i.i in
    let places : List ℕ = c.in_ok-places.places.items in
    let vars : List ℕ = c.args.vars.now in
    let old = c.loop-i.invariant in
    let row_is : c.row.result.now ≡ get_or g.rows i [] = c.row.ensures.is ∙ ap (λ (rs : List (List ℕ)). get_or rs i []) c.rows-rows.ensures.rows in
    let added : List ℕ = c.deref-in-loop-i.result.now in
    let cells : added ≡ pick places c.row.result.now = search rules in
    let is : added ≡ pick places (get_or g.rows i []) = cells ∙ ap (pick places) row_is in
    let low : i < length g.rows = let t = c.loop-i-test.true in let e = c.len-i-end.ensures in let f = ap length c.rows-rows.ensures.rows in omega arith in
    let below : AreBelow places (length g.vars) = rw c.vars.ensures at c.in_ok-places.ensures.below in
    let same : pick places g.vars ≡ vars = rw c.vars.ensures at c.in_ok-places.ensures.is in
    let given : IsGiven vars (g ∷ []) always added = subst (λ r. IsGiven vars (g ∷ []) always r) (sym is) (row_given g places vars below same c.rows-rows.ensures.real i low) in
    record {
      width = c.in_ok-add.ensures.width ∙ old.width;
      kept = λ r h. c.in_ok-add.ensures.kept r (old.kept r h);
      only = λ r h. ⊎_elim (λ o. old.only r o) (λ e. inr (subst (λ r. IsGiven vars (g ∷ []) always r) e given)) (c.in_ok-add.ensures.only r h);
      all = λ j l.
          ⊎_elim
          (λ (b : j < i). c.in_ok-add.ensures.kept (pick places (get_or g.rows j [])) (old.all j b))
          (λ (b : i ≤ j).
          let here : i ≡ j = omega arith in
          subst (λ r. Contains c.add.new.self.rows r) (is ∙ ap (λ j. pick places (get_or g.rows j [])) here) c.in_ok-add.ensures.had)
          (cases_lt j i);
    }

pub returns-clause-all : goal.returns-clause-all
returns-clause-all c = λ r x.
    let g : Edge ℕ = c.args.g.now in
    let places : List ℕ = c.in_ok-places.places.items in
    let below : AreBelow places (length g.vars) = rw c.vars.ensures at c.in_ok-places.ensures.below in
    let same : pick places g.vars ≡ c.args.vars.now = rw c.vars.ensures at c.in_ok-places.ensures.is in
    let p = given_row g places c.args.vars.now r below same x in
    let l = p.low in
    let low : p.row < c.loop-i.i = let t = c.loop-i-test.false in let e = c.len-i-end.ensures in let f = ap length c.rows-rows.ensures.rows in omega arith in
    subst (λ r. Contains c.loop-i.out.rows r) p.gives (c.loop-i.invariant.all p.row low)
