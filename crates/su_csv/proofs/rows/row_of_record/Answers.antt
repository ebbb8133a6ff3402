-- The values so far go on with those of the fields left to the whole row, and no column so far lacks its kind; so a field without a value is where the fault is sought.
use Rattle.std.proofs.Common.{◌∙◌, inr, arith, length, refl}
use Rattle.std.proofs.lemmas.Option.{slice_get_read}
use Rattle.csv.specs.Records.{fields_of}
use Rattle.su_base.specs.declared.values.Kind.TheVariants.{Int, Text}
use Rattle.su_csv.specs.Record.{row_from_fields}
use Rattle.csv.proofs.RecordFacts.{text-of}
use Rattle.su_csv.proofs.RowSoFar.{field-at, fault-here, got, got-none, in-full, one-value, still-sought}
use Rattle.su_csv.proofs.rows.row_of_record.Goals as goal

pub loop-place-preserved : goal.loop-place-preserved
loop-place-preserved c =
    let at-column = slice_get_read c.args.columns.now (length c.args.columns.now) c.loop-place.place c.index-columns-place.result refl c.loop-place-test.true c.index-columns-place.is in
    let value = got _ _ _ _ c.in_ok-push_value.ensures c.if-not-branch.false in record {
      numbers = still-sought c.args.columns.now (fields_of c.args.fields.now) c.loop-place.place c.index-columns-place.result c.field_at-field.result.now at-column c.field_at-field.ensures Int value.0 _ value.1.0 c.loop-place.invariant.numbers;
      texts = still-sought c.args.columns.now (fields_of c.args.fields.now) c.loop-place.place c.index-columns-place.result c.field_at-field.result.now at-column c.field_at-field.ensures Text value.0 _ value.1.0 c.loop-place.invariant.texts;
      built = rw value.1.1 (one-value c.args.columns.now (fields_of c.args.fields.now) c.loop-place.place c.index-columns-place.result c.field_at-field.result.now at-column c.field_at-field.ensures value.0 c.loop-place.row _ value.1.0 c.loop-place.invariant.built);
    }

pub returns-then-not-branch : goal.returns-then-not-branch
returns-then-not-branch c =
    let at-column = slice_get_read c.args.columns.now (length c.args.columns.now) c.loop-place.place c.index-columns-place.result refl c.loop-place-test.true c.index-columns-place.is in
    inr (in-full c.args.columns.now (fields_of c.args.fields.now) c.args.number c.requires.number (omega arith)
    ∙ fault-here c.args.columns.now (fields_of c.args.fields.now) c.loop-place.place c.index-columns-place.result c.field_at-field.result.now at-column c.field_at-field.ensures
    c.args.number _ _ (row_from_fields c.args.columns.now (fields_of c.args.fields.now)) c.fault_at.result (got-none _ _ _ _ c.in_ok-push_value.ensures c.if-not-branch.true) c.loop-place.invariant.numbers c.loop-place.invariant.texts c.fault_at.ensures)

pub push_value-requires : goal.push_value-requires
push_value-requires c is = text-of (fields_of c.args.fields.now) c.loop-place.place c.field_at-field.result.now (c.is_ascii-ascii.ensures is) (field-at (fields_of c.args.fields.now) c.loop-place.place ∙ c.field_at-field.ensures)
