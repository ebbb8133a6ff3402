use Rattle.std.proofs.Common.{◌≡◌, ◌+◌}
use Rattle.su_csv.specs.File.{rows_from}
use Rattle.su_csv.specs.inside.Records.{Stands, records_left}
use Rattle.su_csv.proofs.RecordsSoFar.{behind}
use Rattle.su_csv.proofs.reading.rows_under_header.Given as goal

abbrev pub invariant-loop-before : goal.invariant-loop-before
invariant-loop-before l = record {
  stands : Stands l.records;
  rest : rows_from l.columns 1 (records_left l.fn.records) ≡ behind l.rows (rows_from l.columns (l.before + 1) (records_left l.records));
}
