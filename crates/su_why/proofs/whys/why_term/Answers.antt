-- What is to blame for the whole task tells why the term has no answer, since the task's outputs are its answers.
use Rattle.std.proofs.Common.{List, subst}
use Rattle.su_rel.specs.Stored.{Stored}
use Rattle.su_tableau.specs.Tableaux.{IsValid}
use Rattle.su_exec.specs.declared.tasks.Compared.{Compared}
use Rattle.su_why.specs.Blame.{IsBlameFor}
use Rattle.su_why.proofs.Whole.{why_is}
use Rattle.su_why.proofs.whys.why_term.Goals as goal

pub returns : goal.returns
returns c =
    let db = c.args.db.now in
    let task = c.in_ok-task.task in
    let found = c.in_ok-found.found in
    why_is db c.args.minimal.now task c.keeps_its_rules.ensures (subst IsValid c.tableau.ensures c.keeps_its_rules-2.ensures.valid) c.in_ok-task.ensures.fits c.in_ok-task.ensures.task found
    (subst (λ (fixed : List Compared). IsBlameFor (record { tables = db.tables; task = task; fixed = fixed }) found) c.new-none.ensures
    (subst (λ (tables : List Stored). IsBlameFor (record { tables = tables; task = task; fixed = c.new-none.result }) found) c.tables.ensures c.in_ok-found.ensures))
