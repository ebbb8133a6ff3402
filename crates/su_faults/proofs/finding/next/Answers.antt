-- The choice of the first token's sort is the only one that takes it.
use Rattle.std.proofs.Common.{subst}
use Rattle.su_faults.specs.inside.Firsts.{IsFirstOfSort}
use Rattle.su_faults.proofs.Stepping.{step_told, no_step}
use Rattle.su_faults.proofs.finding.next.Goals as goal

pub returns-in-Some-chosen : goal.returns-in-Some-chosen
returns-in-Some-chosen c =
    let first = subst (IsFirstOfSort c.args.rest.now) c.in-Some.is c.in_ok-first.ensures in
    step_told c.args.state.now c.args.rest.now c.in-Some.sort c.in-Some.n c.in-Some-chosen.step c.moved.result first (rw c.choices.ensures at c.in-Some-chosen.ensures) c.moved.ensures

pub returns-in-None-chosen : goal.returns-in-None-chosen
returns-in-None-chosen c =
    let first = subst (IsFirstOfSort c.args.rest.now) c.in-Some.is c.in_ok-first.ensures in
    no_step c.args.state.now c.args.rest.now c.in-Some.sort c.in-Some.n first (rw c.choices.ensures at c.in-None-chosen.ensures)
