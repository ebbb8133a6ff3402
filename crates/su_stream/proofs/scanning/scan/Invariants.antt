use Rattle.std.proofs.Common.{◌≤◌, ◌-◌, ◌++◌, length, take, List, ℕ}
use Rattle.su_stream.specs.inside.OpenTexts.{IsAt}
use Rattle.su_stream.proofs.scanning.scan.Given as goal

abbrev pub invariant-loop-count : goal.invariant-loop-count
invariant-loop-count l = record {
  within : l.count ≤ length l.bytes;
  at : (text : List ℕ) → IsAt l.fn.start text → IsAt l.state (text ++ take l.count l.bytes);
}

abbrev pub decreases-loop-count : goal.decreases-loop-count
decreases-loop-count l = length l.bytes - l.count
