-- Each first row up to the next one breaks nothing with any; a row that isn't there can't.
use Rattle.std.proofs.Common.{ℕ, below_more, arith}
use Rattle.std.proofs.lemmas.Option.{MatchOption-at_none}
use Rattle.su_clash.specs.inside.Renames.{BreaksBy}
use Rattle.su_clash.proofs.chasing.breaking_rows.Goals as goal

pub loop-first-preserved : goal.loop-first-preserved
loop-first-preserved c = λ j k low.
    below_more (λ (n : ℕ). (m : ℕ) → ¬ BreaksBy c.args.fds.now c.args.rows.now c.args.renames.now (record { fd = c.args.fd; first = n; second = m })) c.loop-first.first (λ n less m. c.loop-first.invariant n m less)
    (MatchOption-at_none _ (BreaksBy c.args.fds.now c.args.rows.now c.args.renames.now) c.in_default.is c.breaking_second.ensures) j low k

pub returns : goal.returns
returns c = λ j k b. (let low = b.follows.named.first in let done = c.loop-first-test.false in c.loop-first.invariant j k (omega (arith, low, done)) b)
