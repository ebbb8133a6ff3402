use Rattle.std.proofs.Common.{◌≡◌, ℕ, ◌+◌, ◌<◌, get_or, length}
use Rattle.std.specs.Int.{bit_at}
use Rattle.su_map.proofs.AgreementTable.{AreToldTo}
use Rattle.su_map.proofs.tables.fill_pair.Given as goal

abbrev pub invariant-loop-e : goal.invariant-loop-e
invariant-loop-e l = record {
  before : (x : ℕ) → x < l.start → get_or l.agree x 0 ≡ get_or l.fn.agree x 0;
  filled : (p : ℕ) → p < length l.to.rows → bit_at l.targets p ≡ 1 → AreToldTo l.to l.columns p l.others l.e (get_or l.agree (l.start + p) 0);
}
