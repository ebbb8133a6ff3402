-- Each row up to the next one breaks nothing; a row that isn't there can't.
use Rattle.std.proofs.Common.{◌∙◌, ℕ, sym, below_more, arith}
use Rattle.std.proofs.lemmas.Bool.{false≢true}
use Rattle.su_clash.specs.inside.Renames.{BreaksBy}
use Rattle.su_clash.proofs.chasing.breaking_second.Goals as goal

pub loop-second-preserved : goal.loop-second-preserved
loop-second-preserved c =
    below_more (λ (k : ℕ). ¬ BreaksBy c.args.fds.now c.args.rows.now c.args.renames.now (record { fd = c.args.fd; first = c.args.first; second = k })) c.loop-second.second c.loop-second.invariant
    (λ b. false≢true (sym c.if-breaks.false ∙ c.breaks.ensures.1 b))

pub returns : goal.returns
returns c = λ k b. (let low = b.follows.named.second in let done = c.loop-second-test.false in c.loop-second.invariant k (omega (arith, low, done)) b)
