-- The names and fields so far agree, so the whole is a header exactly where the rest is; a name that differs shows that it is none.
use Rattle.std.proofs.Common.{◌∙◌, sym, length, refl}
use Rattle.csv.specs.Records.{fields_of}
use Rattle.std.proofs.lemmas.Bool.{not-false}
use Rattle.std.proofs.lemmas.Option.{slice_get_read}
use Rattle.std.proofs.lemmas.Bool.{not-true}
use Rattle.su_csv.proofs.RecordsSoFar.{same-name, other-name}
use Rattle.su_csv.proofs.reading.is_header.Goals as goal

pub returns-then-ne : goal.returns-then-ne
returns-then-ne c =
    let at-column = slice_get_read c.args.columns.now (length c.args.columns.now) c.loop-place.place c.index-columns-place.result refl c.loop-place-test.true c.index-columns-place.is in
    sym (other-name c.args.columns.now (fields_of c.args.fields.now) c.loop-place.place c.index-columns-place.result c.field_at.result.now at-column c.field_at.ensures _
    (not-true _ (rw (c.as_bytes.ensures.value, c.as_str.ensures) at (sym c.ne.ensures ∙ c.if-ne.true))) c.loop-place.invariant)

pub loop-place-preserved : goal.loop-place-preserved
loop-place-preserved c =
    let at-column = slice_get_read c.args.columns.now (length c.args.columns.now) c.loop-place.place c.index-columns-place.result refl c.loop-place-test.true c.index-columns-place.is in
    same-name c.args.columns.now (fields_of c.args.fields.now) c.loop-place.place c.index-columns-place.result c.field_at.result.now at-column c.field_at.ensures _
    (not-false _ (rw (c.as_bytes.ensures.value, c.as_str.ensures) at (sym c.ne.ensures ∙ c.if-ne.false))) c.loop-place.invariant
