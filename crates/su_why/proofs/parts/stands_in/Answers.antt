-- The variable stands in none of the rows so far, so a row that has it shows that it stands in some.
use Rattle.std.proofs.Common.{◌≡◌, ◌<◌, ◌≤◌, ℕ, List, get_or, Contains, refl, sym, ap, subst, ◌∙◌, ⊎_elim, arith}
use Rattle.std.proofs.lemmas.Bool.{cases_lt, true≢false, false≢true}
use Rattle.std.proofs.lemmas.List.{get_or_default}
use Rattle.su_tableau.specs.declared.symbols.Sym.{Sym}
use Rattle.su_tableau.specs.declared.symbols.Sym.TheVariants.{Var}
use Rattle.su_exec.specs.declared.tasks.TaskRow.{TaskRow}
use Rattle.su_why.proofs.parts.stands_in.Goals as goal

pub returns-then-has_variable : goal.returns-then-has_variable
returns-then-has_variable c =
    let rows = c.args.rows.now in
    let i = c.loop-i.i in
    let row : TaskRow = c.index-rows-i.result in
    let low = c.loop-i-test.true in
    let own : Contains (get_or rows i row).cells (Var c.args.k) = subst (λ (cells : List Sym). Contains cells (Var c.args.k)) c.as_slice.ensures (c.has_variable.ensures.0 c.if-has_variable.true) in
    let has : Contains row.cells (Var c.args.k) = subst (λ (r : TaskRow). Contains r.cells (Var c.args.k)) (sym c.index-rows-i.is) own in
    (λ t. (row, (i, low, sym c.index-rows-i.is), has), λ w. refl)

pub loop-i-preserved : goal.loop-i-preserved
loop-i-preserved c =
    let rows = c.args.rows.now in
    let i = c.loop-i.i in
    λ j d low has.
    ⊎_elim
    (λ (m : j < i). c.loop-i.invariant j d m has)
    (λ (m : i ≤ j).
    let e : j ≡ i = omega arith in
    let at : get_or rows j d ≡ get_or rows i c.index-rows-i.result = ap (λ (k : ℕ). get_or rows k d) e ∙ get_or_default rows i d c.index-rows-i.result c.loop-i-test.true in
    let own = subst (λ (cells : List Sym). Contains cells (Var c.args.k)) (sym c.as_slice.ensures) (subst (λ (r : TaskRow). Contains r.cells (Var c.args.k)) at has) in
    absurd (true≢false (sym (c.has_variable.ensures.1 own) ∙ c.if-has_variable.false)))
    (cases_lt j i)

pub returns : goal.returns
returns c = (
  λ f. absurd (false≢true f),
  λ w.
      let there = w.1 in
      absurd (c.loop-i.invariant there.0 w.0 (let l = there.1 in omega (arith, l)) (subst (λ (r : TaskRow). Contains r.cells (Var c.args.k)) (sym there.2) w.2)),
)
