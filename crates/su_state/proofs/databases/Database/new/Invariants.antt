use Rattle.std.proofs.Common.{◌≡◌, take}
use Rattle.su_state.specs.DatabaseValue.{empty_tables}
use Rattle.su_state.proofs.databases.Database.new.Given as goal

abbrev pub invariant-loop-r : goal.invariant-loop-r
invariant-loop-r l = l.tables ≡ take l.r (empty_tables l.fn.schema)
