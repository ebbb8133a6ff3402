use Rattle.std.proofs.Common.{◌≡◌, ◌≤◌, [], length, map, drop}
use Rattle.su_query.specs.Mentions.{mentions}
use Rattle.su_query.proofs.mentions.have_few_variables.Given as goal

abbrev pub invariant-loop-reference : goal.invariant-loop-reference
invariant-loop-reference l = record {
  whole : mentions l.seen (map (λ r. r.now) (drop l.reference-index l.references)) ≡ mentions [] (map (λ r. r.now) l.references);
  few : length l.seen ≤ 8;
}
