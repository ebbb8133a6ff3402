use Rattle.std.proofs.Common.{◌≡◌, take}
use Rattle.su_schema.specs.Entries.{column_names}
use Rattle.su_session.proofs.showing.names.Given as goal

abbrev pub invariant-loop-column : goal.invariant-loop-column
invariant-loop-column l = l.names ≡ column_names (take l.column-index l.columns)
