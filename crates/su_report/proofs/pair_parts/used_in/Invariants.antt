use Rattle.std.proofs.Common.{ℕ, ◌<◌, ◌↔◌, IsTrue}
use Rattle.std.specs.FinSet.{contains}
use Rattle.su_base.specs.Sets.{set_at}
use Rattle.su_report.proofs.pair_parts.used_in.Given as goal

abbrev pub invariant-loop-object : goal.invariant-loop-object
invariant-loop-object l = (a : ℕ) → IsTrue (contains l.all a) ↔ ((k : ℕ) × (k < l.object-index) × IsTrue (contains (set_at l.objects k) a))
