use Rattle.std.proofs.Common.{◌≡◌, ◌++◌, drop}
use Rattle.csv.specs.Records.{fields_of}
use Rattle.su_base.specs.declared.values.Kind.TheVariants.{Int, Text}
use Rattle.su_csv.specs.Record.{place_without, row_from_fields}
use Rattle.su_csv.proofs.rows.row_of_record.Given as goal

abbrev pub invariant-loop-place : goal.invariant-loop-place
invariant-loop-place l = record {
  numbers : place_without Int 0 l.columns (fields_of l.fields) ≡ place_without Int l.place (drop l.place l.columns) (drop l.place (fields_of l.fields));
  texts : place_without Text 0 l.columns (fields_of l.fields) ≡ place_without Text l.place (drop l.place l.columns) (drop l.place (fields_of l.fields));
  built : l.row ++ row_from_fields (drop l.place l.columns) (drop l.place (fields_of l.fields)) ≡ row_from_fields l.columns (fields_of l.fields);
}
