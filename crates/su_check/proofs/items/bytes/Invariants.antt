use Rattle.std.proofs.Common.{◌≡◌, ◌++◌, length, map, All}
use Rattle.su_check.specs.NodeSymbols.{number}
use Rattle.su_check.specs.Ranges.{IsByte}
use Rattle.su_check.proofs.items.bytes.Given as goal

abbrev pub invariant-loop-n : goal.invariant-loop-n
invariant-loop-n l = record {
  whole : l.fn.reader ≡ map number l.numbers ++ l.reader;
  are : All IsByte l.numbers;
}

abbrev pub decreases-loop-n : goal.decreases-loop-n
decreases-loop-n l = length l.reader
