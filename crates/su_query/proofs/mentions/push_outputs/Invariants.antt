use Rattle.std.proofs.Common.{◌≡◌, ◌++◌, map, take}
use Rattle.su_query.proofs.mentions.push_outputs.Given as goal

abbrev pub invariant-loop-output : goal.invariant-loop-output
invariant-loop-output l = map (λ r. r.now) l.refs ≡ map (λ r. r.now) l.fn.refs ++ take l.output-index l.outputs
