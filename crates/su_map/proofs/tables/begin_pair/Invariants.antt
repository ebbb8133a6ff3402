use Rattle.std.proofs.Common.{◌≡◌, ℕ, ◌+◌, ◌<◌, get_or}
use Rattle.su_map.proofs.tables.begin_pair.Given as goal

abbrev pub invariant-loop-p : goal.invariant-loop-p
invariant-loop-p l = record {
  before : (x : ℕ) → x < l.start → get_or l.agree x 0 ≡ get_or l.initial.agree x 0;
  begun : (p : ℕ) → p < l.p → get_or l.agree (l.start + p) 0 ≡ l.others;
}
