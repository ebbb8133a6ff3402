use Rattle.std.proofs.Common.{◌<◌, ◌++◌, ℕ}
use Rattle.su_state.specs.inside.AdmissibleRows.{KeepThrough}
use Rattle.su_state.proofs.filling.keep_all.Given as goal

abbrev pub invariant-loop-fd : goal.invariant-loop-fd
invariant-loop-fd l = (f : ℕ) → f < l.fd → (o : ℕ) → KeepThrough l.schema l.both.relation (l.both.stored.now ++ l.both.more.now) f o
