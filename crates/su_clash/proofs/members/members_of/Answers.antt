-- The members so far are those of the objects so far, each read by its own columns; after the last object they are those of the whole database.
use Rattle.std.proofs.Common.{◌≡◌, length, map, ap, arith, ◌∙◌}
use Rattle.su_schema.specs.SchemaValue.{SchemaValue}
use Rattle.su_window.proofs.RowRead.{columns_length, columns_at}
use Rattle.su_window.proofs.Counted.{all_read}
use Rattle.su_clash.specs.Clash.{reading_of}
use Rattle.su_clash.proofs.members.members_of.Goals as goal

pub bounds-columns-object : goal.bounds-columns-object
bounds-columns-object c =
    let long = columns_length c.args.db.now.schema c.args.columns.now c.requires in
    let low = c.loop-object-test.true in
    let end = c.objects-object-end.ensures in
    let same : length c.schema.result.now.objects ≡ length c.args.db.now.schema.objects = ap (λ (s : SchemaValue). length s.objects) c.schema.ensures in
    omega (arith, long, low, end, same)

pub read_object-requires-clause-columns : goal.read_object-requires-clause-columns
read_object-requires-clause-columns c =
    let low = c.loop-object-test.true in
    let end = c.objects-object-end.ensures in
    let same : length c.schema.result.now.objects ≡ length c.args.db.now.schema.objects = ap (λ (s : SchemaValue). length s.objects) c.schema.ensures in
    c.as_slice-columns.ensures ∙ columns_at c.args.db.now.schema c.loop-object.object (omega (arith, low, end, same)) c.args.columns.now c.requires c.index-columns-object.result c.index-columns-object.is

pub returns-clause-members : goal.returns-clause-members
returns-clause-members c =
    let done = c.loop-object-test.false in
    let within = c.loop-object.auto.object-end in
    let end = c.objects-object-end.ensures in
    let same : length c.schema.result.now.objects ≡ length c.args.db.now.schema.objects = ap (λ (s : SchemaValue). length s.objects) c.schema.ensures in
    all_read c.args.db.now c.loop-object.object (map reading_of c.loop-object.members) (omega (arith, done, within, end, same)) c.loop-object.invariant.0
