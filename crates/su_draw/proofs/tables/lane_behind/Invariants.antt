use Rattle.std.proofs.Common.{◌≡◌, drop}
use Rattle.su_draw.specs.inside.Lay.{lane_from}
use Rattle.su_draw.proofs.tables.lane_behind.Given as goal

abbrev pub invariant-loop-k : goal.invariant-loop-k
invariant-loop-k l = lane_from l.lane l.k (drop l.k l.words) ≡ lane_from l.first 0 l.words
