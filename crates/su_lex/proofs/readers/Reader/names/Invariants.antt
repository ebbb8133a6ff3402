use Rattle.std.proofs.Common.{◌≡◌, ◌++◌, length}
use Rattle.su_base.specs.Name.{AreNames}
use Rattle.su_lex.specs.Names.{names_symbols}
use Rattle.su_lex.proofs.readers.Reader.names.Given as goal

abbrev pub invariant-loop-names : goal.invariant-loop-names
invariant-loop-names l = record {
  whole : l.fn.self ≡ names_symbols l.names ++ l.self;
  are : AreNames l.names;
}

abbrev pub decreases-loop-names : goal.decreases-loop-names
decreases-loop-names l = length l.self
