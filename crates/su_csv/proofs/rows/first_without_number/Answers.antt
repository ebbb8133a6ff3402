-- No column so far lacks a number, so the one sought is sought among the rest, numbered on from here.
use Rattle.std.proofs.Common.{◌∙◌, sym, length, refl}
use Rattle.std.proofs.lemmas.Option.{slice_get_read}
use Rattle.csv.specs.Records.{fields_of}
use Rattle.su_base.specs.declared.values.Kind.TheVariants.{Int}
use Rattle.su_csv.proofs.RowSoFar.{sought-here, sought-later}
use Rattle.su_csv.proofs.rows.first_without_number.Goals as goal

pub returns-then-lacks_number : goal.returns-then-lacks_number
returns-then-lacks_number c =
    sym (sought-here c.args.columns.now (fields_of c.args.fields.now) c.loop-place.place c.index-columns-place.result c.field_at.result.now
    (slice_get_read c.args.columns.now (length c.args.columns.now) c.loop-place.place c.index-columns-place.result refl c.loop-place-test.true c.index-columns-place.is) c.field_at.ensures
    Int _ (sym c.lacks_number.ensures ∙ c.if-lacks_number.true) c.loop-place.invariant)

pub loop-place-preserved : goal.loop-place-preserved
loop-place-preserved c =
    sought-later c.args.columns.now (fields_of c.args.fields.now) c.loop-place.place c.index-columns-place.result c.field_at.result.now
    (slice_get_read c.args.columns.now (length c.args.columns.now) c.loop-place.place c.index-columns-place.result refl c.loop-place-test.true c.index-columns-place.is) c.field_at.ensures
    Int _ (sym c.lacks_number.ensures ∙ c.if-lacks_number.false) c.loop-place.invariant
