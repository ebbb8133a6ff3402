use Rattle.std.proofs.Common.{◌≡◌}
use Rattle.su_state.proofs.noting.note_fd.Given as goal

abbrev pub invariant-loop-object : goal.invariant-loop-object
invariant-loop-object l = l.tables.items ≡ l.fn.tables.items
