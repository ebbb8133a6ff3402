use Rattle.std.proofs.Common.{◌≡◌, drop}
use Rattle.csv.specs.Records.{fields_of}
use Rattle.su_base.specs.declared.values.Kind.TheVariants.{Int}
use Rattle.su_csv.specs.Record.{place_without}
use Rattle.su_csv.proofs.rows.first_without_number.Given as goal

abbrev pub invariant-loop-place : goal.invariant-loop-place
invariant-loop-place l = place_without Int 0 l.columns (fields_of l.fields) ≡ place_without Int l.place (drop l.place l.columns) (drop l.place (fields_of l.fields))
