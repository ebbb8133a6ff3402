use Rattle.std.proofs.Common.{◌<◌, ◌++◌, ℕ}
use Rattle.su_state.specs.inside.AdmissibleRows.{KeepThrough}
use Rattle.su_state.proofs.filling.keep_fd.Given as goal

abbrev pub invariant-loop-object : goal.invariant-loop-object
invariant-loop-object l = (o : ℕ) → o < l.object → KeepThrough l.schema l.both.relation (l.both.stored.now ++ l.both.more.now) l.fd o
