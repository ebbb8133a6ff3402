-- A task that fits the term's kept rows answers, over tables that make a database, what these rows answer in it.
use Rattle.std.proofs.Common.{refl, subst}
use Rattle.su_tableau.specs.Tableaux.{IsValid}
use Rattle.su_answer.proofs.Union.{found_for}
use Rattle.su_answer.proofs.storing.found_in.Goals as goal

pub found_over-requires : goal.found_over-requires
found_over-requires g c = c.in_ok-task.ensures.fits (g.S.Rows.tables c.args.store.now) c.requires.kept

pub returns-clause-found : goal.returns-clause-found
returns-clause-found g c =
    let tables = g.S.Rows.tables c.args.store.now in
    found_for (record { schema = c.args.schema.now; tables = tables }) c.args.minimal.now (record { tables = tables; task = c.in_ok-task.task }) c.in_ok-found.found c.requires.kept
    (subst IsValid c.tableau.ensures c.keeps_its_rules.ensures.valid) (record { tables = refl; task = c.in_ok-task.ensures.task; fits = c.in_ok-task.ensures.fits tables c.requires.kept })
    c.in_ok-found.ensures.found
