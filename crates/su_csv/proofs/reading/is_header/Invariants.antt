use Rattle.std.proofs.Common.{◌≡◌, drop}
use Rattle.csv.specs.Records.{fields_of}
use Rattle.su_csv.specs.File.{is_header}
use Rattle.su_csv.proofs.reading.is_header.Given as goal

abbrev pub invariant-loop-place : goal.invariant-loop-place
invariant-loop-place l = is_header l.columns (fields_of l.fields) ≡ is_header (drop l.place l.columns) (drop l.place (fields_of l.fields))
