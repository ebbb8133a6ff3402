-- The variable is in no row so far, so a row that has it is the first.
use Rattle.std.proofs.Common.{◌≡◌, ◌<◌, ◌≤◌, Contains, subst, sym, ◌∙◌, ⊎_elim, arith}
use Rattle.std.proofs.lemmas.Bool.{cases_lt, true≢false}
use Rattle.su_tableau.specs.declared.symbols.Sym.TheVariants.{Var}
use Rattle.su_exec.specs.Tasks.{StandsIn}
use Rattle.su_exec.proofs.Labels.{stands_at, cell_at}
use Rattle.su_exec.proofs.connecting.first_with.Goals as goal

pub returns-then-has_variable : goal.returns-then-has_variable
returns-then-has_variable c =
    let task = c.args.task.now in
    let k = c.args.k in
    let i = c.loop-i.i in
    let here : Contains c.get.result.now.cells (Var k) = subst (λ cells. Contains cells (Var k)) c.as_slice.ensures (c.has_variable.ensures.0 c.if-has_variable.true) in
    record {
      stands = stands_at task k i c.get.result.now c.get.ensures here;
      least = λ j s. ⊎_elim (λ (l : j < i). absurd (c.loop-i.invariant j l s)) (λ (l : i ≤ j). l) (cases_lt j i);
    }

pub loop-i-preserved : goal.loop-i-preserved
loop-i-preserved c =
    let task = c.args.task.now in
    let k = c.args.k in
    let i = c.loop-i.i in
    λ j l s.
    ⊎_elim
    (λ (m : j < i). c.loop-i.invariant j m s)
    (λ (m : i ≤ j).
    let e : j ≡ i = omega arith in
    let at : StandsIn task k i = subst (StandsIn task k) e s in
    let has : Contains c.as_slice.result.now (Var k) = subst (λ cells. Contains cells (Var k)) (sym c.as_slice.ensures) (cell_at task k i c.get.result.now c.get.ensures at) in
    true≢false (sym (c.has_variable.ensures.1 has) ∙ c.if-has_variable.false))
    (cases_lt j i)
