-- The best so far is met by all that meets the value of a row so far.
use Rattle.std.proofs.Common.{◌≡◌, ◌<◌, ◌≤◌, ℕ, true, List, [], get_or, sym, ap, subst, ◌∙◌, ⊎_elim, arith}
use Rattle.std.proofs.lemmas.Bool.{cases_lt}
use Rattle.su_where.specs.Operator.{compares}
use Rattle.su_reduce.specs.Codes.{decode}
use Rattle.su_exec.proofs.narrowing.widest.Goals as goal

pub loop-i-preserved : goal.loop-i-preserved
loop-i-preserved c = λ op side i low x h.
    let values = c.args.codes.now in
    let place = c.args.place in
    let rows : List (List ℕ) = c.args.edge.now.rows in
    ⊎_elim
    (λ (l : i < c.loop-i.i). c.wider-best.ensures.best op side x (c.loop-i.invariant op side i l x h))
    (λ (l : c.loop-i.i ≤ i).
    let same : i ≡ c.loop-i.i = omega arith in
    let row : get_or rows i [] ≡ c.row-in-loop-i.result.now = ap (λ j. get_or rows j []) same ∙ ap (λ (rs : List (List ℕ)). get_or rs c.loop-i.i []) (sym c.rows-in-loop-i.ensures.rows) ∙ sym c.row-in-loop-i.ensures.is in
    let code : get_or (get_or rows i []) place 0 ≡ get_or c.row-in-loop-i.result.now place 0 = ap (λ (r : List ℕ). get_or r place 0) row in
    c.wider-best.ensures.code op side x (subst (λ k. compares op x (decode values k) ≡ true) code h))
    (cases_lt i c.loop-i.i)
