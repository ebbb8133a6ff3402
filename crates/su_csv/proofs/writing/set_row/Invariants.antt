use Rattle.std.proofs.Common.{◌≡◌, [], map, take, All}
use Rattle.csv.specs.Records.{fields_of, partial_of}
use Rattle.su_csv.specs.Written.{field_of}
use Rattle.su_csv.specs.inside.Writers.{IsStored}
use Rattle.su_csv.proofs.writing.set_row.Given as goal

abbrev pub invariant-loop-value : goal.invariant-loop-value
invariant-loop-value l = record {
  fields : fields_of l.fields ≡ map field_of (take l.value-index l.row);
  partial : partial_of l.fields ≡ [];
  stored : All IsStored (take l.value-index l.row);
}
