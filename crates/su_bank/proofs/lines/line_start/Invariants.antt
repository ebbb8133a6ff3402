use Rattle.std.proofs.Common.{◌≡◌, ◌<◌, ◌≤◌, ℕ, length, get_or, false}
use Rattle.su_bank.specs.Lines.{is_feed}
use Rattle.su_bank.proofs.lines.line_start.Given as goal

abbrev pub invariant-loop-start : goal.invariant-loop-start
invariant-loop-start l = record {
  within : l.start ≤ length l.text;
  behind : (k : ℕ) → l.start ≤ k → k < length l.text → is_feed (get_or l.text k 0) ≡ false;
}

abbrev pub decreases-loop-start : goal.decreases-loop-start
decreases-loop-start l = l.start
