-- No set of fewer numbers fails, so the first of so many that does is a least one.
use Rattle.std.proofs.Common.{◌≤◌, ℕ, List, [], length, Option, subst, arith}
use Rattle.std.specs.Prelude.{MatchOption}
use Rattle.su_blame.specs.inside.Fronts.{HasFirst, HasNone}
use Rattle.su_blame.proofs.Sizes.{first_is_least}
use Rattle.su_blame.proofs.searching.first_up_to.Goals as goal

pub returns-in-Some : goal.returns-in-Some
returns-in-Some g c =
    let Fails = g.T.Trial.Fails c.args.trial.now in
    let n = g.T.Trial.size c.args.trial.now in
    let k = c.loop-wanted.wanted in
    first_is_least Fails n k c.loop-wanted.invariant c.in-Some.set
    (subst (λ (o : Option (List ℕ)). MatchOption o (HasNone Fails n k 0 []) (HasFirst Fails n k 0 [])) c.in-Some.is c.in_ok-set.ensures)

pub returns : goal.returns
returns g c = λ t rising fails.
    let long : c.loop-wanted.wanted ≤ length t = c.loop-wanted.invariant t rising fails in
    let end = c.loop-wanted-test.false in
    omega (arith, long, end)
