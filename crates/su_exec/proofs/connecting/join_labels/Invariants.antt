use Rattle.std.proofs.Common.{◌≡◌, ◌<◌, ◌≤◌, ℕ, get_or}
use Rattle.std.specs.Prelude.{cond, nat_eq}
use Rattle.su_exec.proofs.connecting.join_labels.Given as goal

abbrev pub invariant-loop-label : goal.invariant-loop-label
invariant-loop-label l = record {
  before : (k : ℕ) → k < l.label-index → get_or l.labels k 0 ≡ cond (nat_eq (get_or l.initial.labels k 0) l.high) l.low (get_or l.initial.labels k 0);
  after : (k : ℕ) → l.label-index ≤ k → get_or l.labels k 0 ≡ get_or l.initial.labels k 0;
}
