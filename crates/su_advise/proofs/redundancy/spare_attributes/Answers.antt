-- Those so far that are spare; the next comes to the end where it is.
use Rattle.std.proofs.Common.{IsTrue, arith}
use Rattle.std.specs.FinSet.{contains, difference, insert, empty}
use Rattle.su_fd.specs.Closure.{Determines}
use Rattle.su_advise.proofs.Passed.{passed_none, passed_next, passed_two}
use Rattle.su_advise.proofs.redundancy.spare_attributes.Goals as goal

pub loop-a-init : goal.loop-a-init
loop-a-init c = passed_none _ _ c.new-found.ensures

pub loop-a-preserved : goal.loop-a-preserved
loop-a-preserved c = passed_next (λ a. IsTrue (contains c.args.fd.now.left a) × Determines c.args.fds.now (difference c.args.fd.now.left (insert empty a)) c.args.fd.now.right) _ _ _ _ (c.is_spare.ensures) c.loop-a.invariant c.in_ok-push_if.ensures.ok

pub returns : goal.returns
returns c = passed_two (λ a. IsTrue (contains c.args.fd.now.left a)) (λ a. Determines c.args.fds.now (difference c.args.fd.now.left (insert empty a)) c.args.fd.now.right) c.loop-a.a 128 c.loop-a.found (omega arith) c.loop-a.invariant
