-- Each dependency up to the next one is broken by no rows; one that isn't there can't be.
use Rattle.std.proofs.Common.{ℕ, below_more, arith}
use Rattle.std.proofs.lemmas.Option.{MatchOption-at_none}
use Rattle.su_clash.specs.inside.Renames.{BreaksBy}
use Rattle.su_clash.proofs.chasing.breaking.Goals as goal

pub loop-fd-preserved : goal.loop-fd-preserved
loop-fd-preserved c = λ i j k low.
    below_more (λ (n : ℕ). (p m : ℕ) → ¬ BreaksBy c.args.fds.now c.args.rows.now c.args.renames.now (record { fd = n; first = p; second = m })) c.loop-fd.fd (λ n less p m. c.loop-fd.invariant n p m less)
    (MatchOption-at_none _ (BreaksBy c.args.fds.now c.args.rows.now c.args.renames.now) c.in_default.is c.breaking_rows.ensures) i low j k

pub returns : goal.returns
returns c = λ s b. (let low = b.follows.named.fd in let done = c.loop-fd-test.false in c.loop-fd.invariant s.fd s.first s.second (omega (arith, low, done)) b)
