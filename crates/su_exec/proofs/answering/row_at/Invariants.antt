use Rattle.std.proofs.Common.{◌≡◌, take}
use Rattle.su_exec.specs.inside.Shown.{spot_values}
use Rattle.su_exec.proofs.answering.row_at.Given as goal

abbrev pub invariant-loop-spot : goal.invariant-loop-spot
invariant-loop-spot l = l.values ≡ spot_values l.codes (take l.spot-index l.spots) l.row
