use Rattle.std.proofs.Common.{ℕ, ◌<◌, [], get_or}
use Rattle.su_where.specs.declared.operators.Op.{Op}
use Rattle.su_exec.specs.inside.Ranges.{IsSide, Widens}
use Rattle.su_exec.proofs.narrowing.widest.Given as goal

abbrev pub invariant-loop-i : goal.invariant-loop-i
invariant-loop-i l = (op : Op) → IsSide op l.side → (i : ℕ) → i < l.i → Widens l.codes op (get_or (get_or l.edge.rows i []) l.place 0) l.best
