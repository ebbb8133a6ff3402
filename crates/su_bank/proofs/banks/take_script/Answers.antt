-- The statements so far were taken one after another; at the end these are all pieces of the script.
use Rattle.std.proofs.Common.{arith}
use Rattle.su_bank.proofs.Statements.{takes_more, takes_all}
use Rattle.su_bank.proofs.banks.take_script.Goals as goal

pub loop-span-preserved : goal.loop-span-preserved
loop-span-preserved g c =
    takes_more c.args.script.now c.as_slice-span-items.result.now c.loop-span.span-index _ c.args.session.now c.loop-span.session c.step.new.self _
    c.loop-span-test.true c.loop-span.invariant c.step.ensures.kept c.in_ok-step.ensures.replied

pub returns : goal.returns
returns g c = record {
  spans = c.as_slice-span-items.result.now;
  pieces = rw c.as_slice-span-items.ensures c.in_ok-spans.ensures.pieces;
  takes = takes_all c.args.script.now c.as_slice-span-items.result.now c.loop-span.span-index c.args.session.now c.loop-span.session (omega (arith, c.loop-span-test.false)) c.loop-span.invariant;
}
