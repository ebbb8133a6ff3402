-- The values so far are free and differ, and the next number of each kind is past those given; so a candidate tried later was neither avoided nor given.
use Rattle.std.proofs.Common.{rules, ◌≡◌, ◌+◌, List, [], ◌∷◌, ◌++◌, subst, sym, arith}
use Rattle.std.proofs.lemmas.List.{get_or_default}
use Rattle.su_base.specs.declared.values.Kind.TheVariants.{Int as IntKind}
use Rattle.su_base.specs.declared.values.Value.{Value}
use Rattle.su_chase.proofs.DistinctCandidates.{AreGiven, given_more}
use Rattle.su_chase.proofs.candidates.free_values.Goals as goal

pub loop-kind-preserved : goal.loop-kind-preserved
loop-kind-preserved c =
    let values = c.loop-kind.values in
    let n = c.loop-kind.kind-index in
    let found = c.in_ok-number.ensures in
    let value = c.in_ok-numbered.field-0 in
    let more : c.push.new.self ≡ values ++ value ∷ [] = search rules in
    subst (λ (vs : List Value). AreGiven c.args.avoid.now c.args.kinds.now vs c.past-next.result (n + 1)) (sym more)
    (given_more c.args.avoid.now c.args.kinds.now values c.loop-kind.next n c.loop-kind.invariant _ c.in_ok-number.number value found.small (let e = c.count.ensures in let l = found.later in omega arith) found.free (λ i from l. found.least i (let e = c.count.ensures in omega arith) l) c.in_ok-numbered.ensures c.past-next.result c.past-next.ensures (get_or_default c.args.kinds.now n _ IntKind c.loop-kind-test.true))
