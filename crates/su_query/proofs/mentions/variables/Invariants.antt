use Rattle.std.proofs.Common.{◌≡◌, [], map, drop}
use Rattle.su_query.specs.Mentions.{mentions}
use Rattle.su_query.proofs.mentions.variables.Given as goal

abbrev pub invariant-loop-reference : goal.invariant-loop-reference
invariant-loop-reference l = mentions l.seen (map (λ r. r.now) (drop l.reference-index l.references)) ≡ mentions [] (map (λ r. r.now) l.references)
