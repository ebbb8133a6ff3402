use Rattle.std.proofs.Common.{◌≡◌, ℕ, ◌+◌, ◌<◌, ◌≤◌, get_or}
use Rattle.std.specs.Int.{bit_at}
use Rattle.su_map.specs.inside.Targets.{IsToldAt}
use Rattle.su_map.proofs.tables.agree_at.Given as goal

abbrev pub invariant-loop-p : goal.invariant-loop-p
invariant-loop-p l = record {
  before : (x : ℕ) → x < l.start → get_or l.agree x 0 ≡ get_or l.initial.agree x 0;
  later : (p : ℕ) → l.p ≤ p → get_or l.agree (l.start + p) 0 ≡ get_or l.initial.agree (l.start + p) 0;
  told : (p : ℕ) → p < l.p → bit_at l.targets p ≡ 1 → IsToldAt l.to l.shared l.column p (get_or l.initial.agree (l.start + p) 0) (get_or l.agree (l.start + p) 0);
}
