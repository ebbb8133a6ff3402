use Rattle.std.proofs.Common.{◌≡◌, [], take}
use Rattle.csv.specs.Records.{fields_of, partial_of}
use Rattle.su_csv.proofs.writing.set_header.Given as goal

abbrev pub invariant-loop-name : goal.invariant-loop-name
invariant-loop-name l = record {
  fields : fields_of l.fields ≡ take l.name-index l.header;
  partial : partial_of l.fields ≡ [];
}
