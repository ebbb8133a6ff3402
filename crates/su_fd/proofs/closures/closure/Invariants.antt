use Rattle.std.proofs.Common.{IsTrue}
use Rattle.std.specs.Ordering.{nat_cmp}
use Rattle.std.specs.FinSet.{FinSet, is_subset}
use Rattle.su_base.proofs.RemainingSets.{remaining}
use Rattle.su_fd.specs.Closure.{IsClosed}
use Rattle.su_fd.proofs.closures.closure.Given as goal

abbrev pub invariant-loop-wider : goal.invariant-loop-wider
invariant-loop-wider l = record {
  grown : IsTrue (is_subset l.fn.start l.reached);
  least : (s : FinSet nat_cmp) → IsClosed l.fds s → IsTrue (is_subset l.fn.start s) → IsTrue (is_subset l.reached s);
}

abbrev pub decreases-loop-wider : goal.decreases-loop-wider
decreases-loop-wider l = remaining (λ f. f.right) l.fds l.reached
