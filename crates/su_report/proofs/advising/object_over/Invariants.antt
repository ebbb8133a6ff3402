use Rattle.std.proofs.Common.{◌≡◌, map, take}
use Rattle.su_schema.specs.Entries.{column_names}
use Rattle.su_report.specs.Advice.{unnamed}
use Rattle.su_report.proofs.advising.object_over.Given as goal

abbrev pub invariant-loop-column : goal.invariant-loop-column
invariant-loop-column l = l.pairs ≡ map (λ name. record { attribute = unnamed; column = name }) (column_names (take l.column-index l.columns))
