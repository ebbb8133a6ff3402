-- What was seen is never lost, so once there are too many variables there are too many at the end.
use Rattle.std.proofs.Common.{◌<◌, ◌+◌, ◌∷◌, [], ap, length, map, drop, arith}
use Rattle.su_query.specs.declared.refs.Ref.{Ref}
use Rattle.su_query.specs.Mentions.{mentions, same_variable}
use Rattle.su_query.proofs.FirstMentions.{first_mentions-step, first_mentions-grow}
use Rattle.su_query.proofs.mentions.have_few_variables.Goals as goal

pub returns-then-len-gt8-clause-many : goal.returns-then-len-gt8-clause-many
returns-then-len-gt8-clause-many c = λ _.
    let l = c.loop-reference in
    let many : 8 < length c.note.new.seen = omega (arith, c.if-len-gt8.true, c.len.ensures) in
    let e = first_mentions-step same_variable (λ (r : Ref). r.variable) l.seen c.args.references.now l.reference-index c.reference-item.result c.loop-reference-test.true c.reference-item.is in
    let rest = map (λ (r : Ref). r.variable) (map (λ r. r.now) (drop (l.reference-index + 1) c.args.references.now)) in
    omega (arith, many, ap length c.in_ok-note.ensures, first_mentions-grow same_variable (mentions l.seen (c.reference-item.result.now ∷ [])) rest, ap length e, ap length l.invariant.whole)
