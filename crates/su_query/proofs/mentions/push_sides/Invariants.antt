use Rattle.std.proofs.Common.{◌≡◌, ◌++◌, map, take}
use Rattle.std.specs.List.{flat_map}
use Rattle.su_query.specs.Refs.{refs_beside}
use Rattle.su_query.proofs.mentions.push_sides.Given as goal

abbrev pub invariant-loop-comparison : goal.invariant-loop-comparison
invariant-loop-comparison l = map (λ r. r.now) l.refs ≡ map (λ r. r.now) l.fn.refs ++ flat_map refs_beside (map (λ c. c.now) (take l.comparison-index l.compared))
