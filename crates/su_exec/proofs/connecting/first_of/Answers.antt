-- A symbol that is a variable stands where its variable does.
use Rattle.su_exec.proofs.Labels.{first_told}
use Rattle.su_exec.proofs.connecting.first_of.Goals as goal

pub returns-in-Some : goal.returns-in-Some
returns-in-Some c = first_told c.args.task.now c.in-Some.k c.args.symbol.now c.first_with.result c.in-Some.ensures c.first_with.ensures
