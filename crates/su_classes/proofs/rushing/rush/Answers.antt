-- The rules are of the given dependencies, so what they put together these do too; for few rows nothing is merged.
use Rattle.std.proofs.Common.{List, Contains, subst, sym}
use Rattle.std.specs.Prelude.{All}
use Rattle.su_classes.specs.declared.rules.Rule.{Rule}
use Rattle.su_classes.proofs.Rushed.{rules_given}
use Rattle.su_classes.proofs.rushing.rush.Goals as goal

pub returns : goal.returns
returns c =
    rules_given c.args.rows.now c.args.fds.now c.as_slice.result.now c.args.table.now c.rush_by.new.table
    (subst (λ (rules : List Rule). All (λ r. Contains c.args.fds.now r.fd) rules) (sym c.as_slice.ensures) c.in_ok-rules.ensures.given) c.in_ok-rush_by.ensures
