use Rattle.std.proofs.Common.{◌≡◌, ◌++◌, List, [], length, flat_map, All}
use Rattle.su_check.specs.declared.certificates.StatedTerm.{StatedTerm}
use Rattle.su_check.specs.Ranges.{IsTermInRange}
use Rattle.su_check.specs.inside.LineReaders.{term_symbols}
use Rattle.su_check.proofs.Runs.{Left}
use Rattle.su_check.proofs.lines.terms.Given as goal

abbrev pub invariant-loop-terms : goal.invariant-loop-terms
invariant-loop-terms l = record {
  whole : l.fn.reader ≡ flat_map term_symbols l.terms ++ l.reader;
  are : All (IsTermInRange l.width) l.terms;
  left : (all : List StatedTerm) → All (IsTermInRange l.width) all → l.fn.reader ≡ flat_map term_symbols all ++ [] → Left term_symbols (IsTermInRange l.width) all l.terms l.reader [];
}

abbrev pub decreases-loop-terms : goal.decreases-loop-terms
decreases-loop-terms l = length l.reader
