use Rattle.su_plain.specs.inside.Scans.{AreAddedBelow}
use Rattle.su_plain.proofs.scanning.add_all.Given as goal

abbrev pub invariant-loop-i : goal.invariant-loop-i
invariant-loop-i l = AreAddedBelow l.column l.value l.rows l.i l.fn.positions.items l.positions.items
