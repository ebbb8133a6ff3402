use Rattle.su_classes.proofs.JoinedRows.{IsBound}
use Rattle.su_classes.proofs.sweeping.join_firsts.Given as goal

abbrev pub invariant-loop-position : goal.invariant-loop-position
invariant-loop-position l = IsBound l.fd l.rows l.firsts l.fn.table l.table l.position l.changed
