-- The rows so far are the padded rows of the members so far; a pad's number is below the count of all, since members and columns are few.
use Rattle.std.proofs.Common.{◌≡◌, ◌*◌, ◌∙◌, ℕ, List, Option, length, map, get_or, sym, ap, arith}
use Rattle.std.proofs.lemmas.List.{length-map}
use Rattle.std.proofs.lemmas.Nat.{mul-le}
use Rattle.std.proofs.lemmas.List.FromFn.{length-map-range_with_len}
use Rattle.su_base.proofs.Items.{map-range_push}
use Rattle.su_schema.specs.SchemaValue.{SchemaValue, AttributeEntry}
use Rattle.su_schema.specs.Entries.{column_of}
use Rattle.su_schema.specs.Cuts.{width}
use Rattle.su_window.specs.Padded.{object_at, row_read, padded_row, IsReading}
use Rattle.su_window.specs.inside.Readings.{columns_of}
use Rattle.su_window.specs.declared.readings.Reading.{Reading}
use Rattle.su_window.proofs.Rows.{reading_at}
use Rattle.su_clash.specs.Clash.{reading_of}
use Rattle.su_clash.proofs.Pushed.{nobody, reading_same}
use Rattle.su_window.proofs.RowRead.{columns_length, columns_at, row_is, within}
use Rattle.su_window.proofs.TakenValues.{row_padded}
use Rattle.su_clash.proofs.padding.padded_rows.Goals as goal

pub bounds-columns-member : goal.bounds-columns-member
bounds-columns-member c =
    let is : IsReading c.args.db.now (reading_of (get_or c.args.members.now c.loop-i.i nobody)) = c.requires.each c.loop-i.i nobody c.loop-i-test.true in
    let long = columns_length c.args.db.now.schema c.args.columns.now c.requires.columns in
    let low = is.object in
    omega (arith, long, low)

pub padded_row-requires-clause-within : goal.padded_row-requires-clause-within
padded_row-requires-clause-within c =
    let db = c.args.db.now in
    let r : Reading = reading_of (get_or c.args.members.now c.loop-i.i nobody) in
    let is : IsReading db r = c.requires.each c.loop-i.i nobody c.loop-i-test.true in
    let columns : c.as_slice-columns.result.now ≡ columns_of db.schema r.object = c.as_slice-columns.ensures ∙ columns_at db.schema r.object is.object c.args.columns.now c.requires.columns c.index-columns-member.result c.index-columns-member.is in
    let row : c.index-stored-member.result ≡ row_read db r = row_is db r is.position c.rows_under-stored.result.now c.rows_under-stored.ensures c.index-stored-member.result c.index-stored-member.is in
    within db c.keeps_its_rules.ensures r is c.as_slice-columns.result.now columns c.index-stored-member.result row

pub padded_row-requires-clause-small : goal.padded_row-requires-clause-small
padded_row-requires-clause-small c =
    let db = c.args.db.now in
    let r : Reading = reading_of (get_or c.args.members.now c.loop-i.i nobody) in
    let is : IsReading db r = c.requires.each c.loop-i.i nobody c.loop-i-test.true in
    let columns : c.as_slice-columns.result.now ≡ columns_of db.schema r.object = c.as_slice-columns.ensures ∙ columns_at db.schema r.object is.object c.args.columns.now c.requires.columns c.index-columns-member.result c.index-columns-member.is in
    let long : length c.as_slice-columns.result.now ≡ width db.schema = ap (λ (xs : List (Option ℕ)). length xs) columns ∙ length-map-range_with_len (column_of (object_at db.schema r.object)) 0 (width db.schema) in
    let wide = length-map db.schema.attributes (λ (q : AttributeEntry). q.kind) in
    let narrow = c.keeps_its_rules.ensures.valid.few_attributes in
    let low = c.loop-i-test.true in
    let few = c.requires.few in
    let end = c.attributes-width.ensures in
    let same : length c.schema.result.now.attributes ≡ length db.schema.attributes = ap (λ (s : SchemaValue). length s.attributes) c.schema.ensures in
    let product = mul-le c.loop-i.i c.attributes-width.result 20000 128 (omega (arith, low, few)) (omega (arith, end, same, narrow)) in
    omega (arith, product, long, wide, narrow)

pub loop-i-preserved : goal.loop-i-preserved
loop-i-preserved c =
    let db = c.args.db.now in
    let i = c.loop-i.i in
    let r : Reading = reading_of (get_or c.args.members.now i nobody) in
    let is : IsReading db r = c.requires.each i nobody c.loop-i-test.true in
    let columns : c.as_slice-columns.result.now ≡ columns_of db.schema r.object = c.as_slice-columns.ensures ∙ columns_at db.schema r.object is.object c.args.columns.now c.requires.columns c.index-columns-member.result c.index-columns-member.is in
    let row : c.index-stored-member.result ≡ row_read db r = row_is db r is.position c.rows_under-stored.result.now c.rows_under-stored.ensures c.index-stored-member.result c.index-stored-member.is in
    let wide = length-map db.schema.attributes (λ (q : AttributeEntry). q.kind) in
    let end = c.attributes-width.ensures in
    let same : length c.schema.result.now.attributes ≡ length db.schema.attributes = ap (λ (s : SchemaValue). length s.attributes) c.schema.ensures in
    let width_is : c.attributes-width.result ≡ width db.schema = omega (arith, wide, end, same) in
    map-range_push (λ j. padded_row db j (reading_at (map reading_of c.args.members.now) j)) i _ _ _ c.in_ok-push.ensures.ok c.loop-i.invariant
    (c.in_ok-padded_row.ensures ∙ row_padded db c.keeps_its_rules.ensures i r is.object c.as_slice-columns.result.now columns c.index-stored-member.result row (i * c.attributes-width.result) (ap (λ (w : ℕ). i * w) width_is) ∙ ap (padded_row db i) (sym (reading_same c.args.members.now i)))
