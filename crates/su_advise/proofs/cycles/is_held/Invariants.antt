use Rattle.std.proofs.Common.{ℕ, ◌<◌, IsTrue}
use Rattle.std.specs.FinSet.{contains, is_subset}
use Rattle.su_base.specs.Sets.{set_at}
use Rattle.su_advise.proofs.cycles.is_held.Given as goal

abbrev pub invariant-loop-p : goal.invariant-loop-p
invariant-loop-p l = (k : ℕ) → k < l.p → ¬ (IsTrue (contains l.fn.others k) × IsTrue (is_subset l.fn.shared (set_at l.objects k)))
