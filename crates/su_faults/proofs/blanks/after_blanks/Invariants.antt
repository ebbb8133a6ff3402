use Rattle.std.proofs.Common.{◌≤◌, length, List, ℕ}
use Rattle.su_lex.specs.Blanks.{Gap}
use Rattle.su_faults.proofs.blanks.after_blanks.Given as goal

abbrev pub invariant-loop-rest : goal.invariant-loop-rest
invariant-loop-rest l = record {
  before : (r : List ℕ) → Gap l.rest r → Gap l.fn.text r;
  within : length l.rest ≤ length l.fn.text;
}

abbrev pub decreases-loop-rest : goal.decreases-loop-rest
decreases-loop-rest l = length l.rest
