use Rattle.std.proofs.Common.{◌≡◌, map, drop}
use Rattle.su_query.specs.inside.TwoKinds.{two_kinds}
use Rattle.su_query.proofs.kinds.differing_among.Given as goal

abbrev pub invariant-loop-literal : goal.invariant-loop-literal
invariant-loop-literal l = two_kinds l.kinds (map (λ r. r.now) (drop l.literal-index l.compared)) ≡ two_kinds l.kinds (map (λ r. r.now) l.compared)
