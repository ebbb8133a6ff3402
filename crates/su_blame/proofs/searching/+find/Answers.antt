-- Numbers are tried behind the front, the least first: the first that has others behind it which fail is the first of what is looked for.
use Rattle.std.proofs.Common.{◌≡◌, ◌+◌, ◌-◌, ℕ, List, [], ◌∷◌, ◌++◌, Option, subst, ◌∙◌, arith}
use Rattle.std.specs.Prelude.{MatchOption}
use Rattle.su_blame.specs.inside.Fronts.{HasFirst, HasNone}
use Rattle.su_blame.proofs.Fronts.{front_alone, found_more, tried_all}
use Rattle.su_blame.proofs.searching.+find.Goals as goal

pub alone-requires : goal.alone-requires
alone-requires g t c = front_alone (g.T.Trial.size c.args.trial.now) c.args.from c.args.front.now c.requires

pub returns-in-Some : goal.returns-in-Some
returns-in-Some g t c =
    let Fails = g.T.Trial.Fails c.args.trial.now in
    let n = g.T.Trial.size c.args.trial.now in
    let k = c.args.wanted in
    let i = c.loop-i.i in
    let front = c.args.front.now in
    let longer = c.as_slice.result.now in
    let is : longer ≡ front ++ i ∷ [] = c.as_slice.ensures ∙ c.in_ok-longer.ensures in
    let found : HasFirst Fails n (k - 1) (i + 1) longer c.in-Some.set = subst (λ (o : Option (List ℕ)). MatchOption o (HasNone Fails n (k - 1) (i + 1) longer) (HasFirst Fails n (k - 1) (i + 1) longer)) c.in-Some.is c.in_ok-set.ensures in
    found_more Fails n k c.args.from i front longer is c.loop-i.invariant.tried (let ne = c.if-wanted-eq0.false in omega (arith, ne)) c.loop-i.invariant.low
    (let l = c.loop-i-test.true in let e = c.size-i-end.ensures in omega (arith, l, e)) c.in-Some.set found

pub returns : goal.returns
returns g t c =
    tried_all (g.T.Trial.Fails c.args.trial.now) (g.T.Trial.size c.args.trial.now) c.args.wanted c.args.from c.loop-i.i c.args.front.now (let ne = c.if-wanted-eq0.false in omega (arith, ne))
    (let l = c.loop-i-test.false in let e = c.size-i-end.ensures in omega (arith, l, e)) c.loop-i.invariant.tried
