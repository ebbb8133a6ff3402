use Rattle.std.proofs.Common.{◌≡◌, take}
use Rattle.std.specs.Prelude.{map}
use Rattle.su_exec.specs.inside.Shown.{spot_values}
use Rattle.su_exec.proofs.answering.rows_at.Given as goal

abbrev pub invariant-loop-i : goal.invariant-loop-i
invariant-loop-i l = l.rows.items ≡ map (spot_values l.codes l.spots) (take l.i l.last.rows)
