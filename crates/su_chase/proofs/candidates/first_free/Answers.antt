-- All candidates so far are avoided, so the first that isn't among them is free and the least one.
use Rattle.std.proofs.Common.{rules, ◌≡◌, ◌<◌, ◌≤◌, Contains, IsTrue, ⊎_elim, subst, ap, ◌∙◌, arith}
use Rattle.std.proofs.lemmas.Bool.{cases_lt}
use Rattle.su_chase.specs.Frozen.{candidate}
use Rattle.su_chase.proofs.candidates.first_free.Goals as goal

pub loop-number-preserved : goal.loop-number-preserved
loop-number-preserved c = λ i from l.
    let n = c.loop-number.number in
    let hit : IsTrue c.is_among.result = search rules in
    ⊎_elim
    (λ (lt : i < n). c.loop-number.invariant i from lt)
    (λ (ge : n ≤ i).
    let is : n ≡ i = omega arith in
    subst (Contains c.args.avoid.now) (c.in_ok-value.ensures ∙ ap (candidate c.args.kind) is) (c.is_among.ensures.0 hit))
    (cases_lt i n)
