use Rattle.std.proofs.Common.{◌≡◌, ◌++◌, length, map}
use Rattle.su_lex.specs.Wordings.{kind_symbol}
use Rattle.su_check.proofs.items.kinds.Given as goal

abbrev pub invariant-loop-kind : goal.invariant-loop-kind
invariant-loop-kind l = record {
  whole : l.fn.reader ≡ map kind_symbol l.kinds ++ l.reader;
}

abbrev pub decreases-loop-kind : goal.decreases-loop-kind
decreases-loop-kind l = length l.reader
