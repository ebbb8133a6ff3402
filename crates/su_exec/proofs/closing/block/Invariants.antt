use Rattle.std.proofs.Common.{◌≡◌, ◌<◌, ℕ, List, [], length, get_or, Contains}
use Rattle.su_exec.proofs.closing.block.Given as goal

abbrev pub invariant-loop-i : goal.invariant-loop-i
invariant-loop-i l = record {
  width : l.some.width ≡ length l.a.vars;
  only : (r : List ℕ) → Contains l.some.rows r → Contains l.a.rows r;
  all : (j : ℕ) → j < l.i → get_or l.blocks j 0 ≡ l.n → Contains l.some.rows (get_or l.a.rows j []);
}
