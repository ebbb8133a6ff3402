-- The sets so far are what the seeds so far grow to, each at its seed's place, and one more comes at the end.
use Rattle.std.proofs.Common.{length-append, arith}
use Rattle.su_maxobj.proofs.Listed.{grown_push}
use Rattle.su_maxobj.proofs.listing.grown_by.Goals as goal

pub loop-seed-init : goal.loop-seed-init
loop-seed-init c = record { seeds = rw c.new-grown.ensures; each = λ k h. absurd (omega arith) }

pub loop-seed-preserved : goal.loop-seed-preserved
loop-seed-preserved c = record {
  seeds = grind (arith, c.in_ok-push.ensures.ok, length-append, c.loop-seed.invariant.seeds);
  each = λ k h. rw c.in_ok-push.ensures.ok (grown_push c.args.fds.now c.args.objects.now _ _ _ c.loop-seed.invariant.seeds c.loop-seed.invariant.each c.grown_from.ensures.grown k h);
}

pub returns-clause-seeds : goal.returns-clause-seeds
returns-clause-seeds c = omega arith

pub returns-clause-each : goal.returns-clause-each
returns-clause-each c seed h = c.loop-seed.invariant.each seed (omega arith)
