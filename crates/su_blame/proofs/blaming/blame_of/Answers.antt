-- Where the whole doesn't fail, no part of it does.
use Rattle.std.proofs.Common.{arith}
use Rattle.su_blame.proofs.Parts.{none_fails}
use Rattle.su_blame.proofs.blaming.blame_of.Goals as goal

pub returns-then-not-branch : goal.returns-then-not-branch
returns-then-not-branch g c =
    none_fails (g.T.Trial.Fails c.args.trial.now) (g.T.Trial.size c.args.trial.now) (g.met.T.Trial.grows c.args.trial.now)
    (λ fails. let t = c.in_ok-whole_fails.ensures.1 fails in let f = c.if-not-branch.true in absurd (grind (arith, t, f)))
