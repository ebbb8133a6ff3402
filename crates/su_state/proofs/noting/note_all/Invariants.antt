use Rattle.std.proofs.Common.{◌≡◌}
use Rattle.su_state.proofs.noting.note_all.Given as goal

abbrev pub invariant-loop-fd : goal.invariant-loop-fd
invariant-loop-fd l = l.tables.items ≡ l.fn.tables.items
