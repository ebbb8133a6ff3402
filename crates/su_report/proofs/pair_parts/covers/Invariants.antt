use Rattle.std.proofs.Common.{ℕ, ◌≡◌, ◌<◌, length}
use Rattle.su_base.specs.Sets.{set_at}
use Rattle.su_maxobj.specs.AdjoinableObjects.{IsAttributesOf}
use Rattle.su_report.proofs.pair_parts.covers.Given as goal

abbrev pub invariant-loop-set : goal.invariant-loop-set
invariant-loop-set l = record {
  same_length : length l.list ≡ l.set-index;
  each : (k : ℕ) → k < l.set-index → IsAttributesOf l.objects (set_at l.maximal k) (set_at l.list k);
}
