use Rattle.std.proofs.Common.{◌≡◌, length}
use Rattle.su_exec.specs.inside.Ranges.{ArePassing}
use Rattle.su_exec.proofs.narrowing.passing.Given as goal

abbrev pub invariant-loop-i : goal.invariant-loop-i
invariant-loop-i l = record {
  width : l.rows.width ≡ length l.edge.vars;
  passing : ArePassing l.codes l.edge l.test l.i l.rows.rows;
}
