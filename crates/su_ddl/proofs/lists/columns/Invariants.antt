use Rattle.std.proofs.Common.{◌≡◌, ◌++◌, length}
use Rattle.su_ddl.specs.Grammar.{columns_symbols}
use Rattle.su_base.specs.Name.{AreNames}
use Rattle.su_schema.specs.Entries.{column_names}
use Rattle.su_ddl.proofs.lists.columns.Given as goal

abbrev pub invariant-loop-columns : goal.invariant-loop-columns
invariant-loop-columns l = record {
  whole : l.fn.reader ≡ columns_symbols l.columns ++ l.reader;
  are : AreNames (column_names l.columns);
}

abbrev pub decreases-loop-columns : goal.decreases-loop-columns
decreases-loop-columns l = length l.reader
