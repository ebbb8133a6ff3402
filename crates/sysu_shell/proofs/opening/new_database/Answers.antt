-- A database that is new has no rows.
use Rattle.std.proofs.Common.{sym, subst}
use Rattle.sysu_shell.specs.NewDatabases.{IsNewSchema}
use Rattle.sysu_shell.proofs.Kept.{new_rows}
use Rattle.sysu_shell.proofs.opening.new_database.Goals as goal

pub returns-in-Ok : goal.returns-in-Ok
returns-in-Ok c = record {
  empty = λ r. new_rows c.in_ok-own.own c.in-Ok.db c.in-Ok.ensures.empty r;
  begins = subst (IsNewSchema c.args.schema) (sym c.in-Ok.ensures.schema) c.in_ok-own.ensures;
}
