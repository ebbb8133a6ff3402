-- A task that fits the term's kept rows answers, over the tables of a well kept database, what these rows answer in it.
use Rattle.std.proofs.Common.{List, refl, subst}
use Rattle.su_rel.specs.Stored.{Stored}
use Rattle.su_tableau.specs.Tableaux.{IsValid}
use Rattle.su_answer.specs.inside.Executed.{IsFound}
use Rattle.su_answer.proofs.Union.{found_for}
use Rattle.su_answer.proofs.executing.joined.Goals as goal

pub returns : goal.returns
returns c =
    let db = c.args.db.now in
    found_for db c.args.minimal.now (record { tables = db.tables; task = c.in_ok-task.task }) c.in_ok-found.found c.keeps_its_rules.ensures
    (subst IsValid c.tableau.ensures c.keeps_its_rules-2.ensures.valid) (record { tables = refl; task = c.in_ok-task.ensures.task; fits = c.in_ok-task.ensures.fits })
    (subst (λ (tables : List Stored). IsFound (record { tables = tables; task = c.in_ok-task.task }) c.in_ok-found.found) c.tables.ensures c.in_ok-found.ensures)
