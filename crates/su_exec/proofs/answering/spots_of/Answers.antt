-- The spots so far are those of the terms so far; each next term has its variable in the edge, since the outputs have.
use Rattle.std.proofs.Common.{arith}
use Rattle.su_exec.proofs.Outputs.{spots_more, vars_at}
use Rattle.su_exec.proofs.answering.spots_of.Goals as goal

pub spot_in-spot-requires : goal.spot_in-spot-requires
spot_in-spot-requires c = λ k h.
    let test = c.loop-term-test.true in
    c.requires k (vars_at c.args.outputs.now c.loop-term.term-index _ k (omega arith) h)

pub loop-term-preserved : goal.loop-term-preserved
loop-term-preserved c =
    let test = c.loop-term-test.true in
    rw c.in_ok-push.ensures.items (spots_more c.args.vars.now c.args.outputs.now c.loop-term.spots.items c.loop-term.term-index _ c.spot_in-spot.result (omega arith) c.loop-term.invariant c.spot_in-spot.ensures.spot c.spot_in-spot.ensures.within)
