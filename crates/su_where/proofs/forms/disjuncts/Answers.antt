-- What is made is all disjuncts in their order, and a condition is true exactly where one of its disjuncts holds.
use Rattle.std.proofs.Common.{◌≡◌, ◌∙◌, sym, ap, arith}
use Rattle.std.proofs.lemmas.Grind.{common_steps}
use Rattle.su_where.specs.Disjunct.{disjuncts_of, some_holds}
use Rattle.su_where.proofs.DisjunctTruth.{keeps_truth}
use Rattle.su_where.proofs.forms.disjuncts.Goals as goal

pub returns-clause-truth : goal.returns-clause-truth
returns-clause-truth c =
    let all : c.loop-k.made ≡ disjuncts_of c.args.cond.now = grind (arith, common_steps) in
    λ vs. keeps_truth c.args.cond.now vs ∙ ap (λ ds. some_holds ds vs) (sym all)
