-- The member's row is there, and its columns give the values that the object takes from it.
use Rattle.std.proofs.Common.{◌≡◌, ◌∙◌, ap}
use Rattle.su_schema.specs.SchemaValue.{SchemaValue}
use Rattle.su_window.specs.Padded.{row_read}
use Rattle.su_window.specs.inside.Readings.{columns_of}
use Rattle.su_window.proofs.RowRead.{row_is, within, values_are}
use Rattle.su_clash.specs.Clash.{reading_of}
use Rattle.su_clash.proofs.members.values_of.Goals as goal

pub values_in-requires : goal.values_in-requires
values_in-requires c =
    let db = c.args.db.now in
    let r = reading_of c.args.member.now in
    let row : c.index-rows-member.result ≡ row_read db r = row_is db r c.requires.position c.rows_under-rows.result.now c.rows_under-rows.ensures c.index-rows-member.result c.index-rows-member.is in
    let columns : c.as_slice.result.now ≡ columns_of db.schema r.object = c.as_slice.ensures ∙ c.in_ok-columns.ensures ∙ ap (λ (s : SchemaValue). columns_of s r.object) c.schema.ensures in
    within db c.keeps_its_rules.ensures r c.requires c.as_slice.result.now columns c.index-rows-member.result row

pub returns : goal.returns
returns c =
    let db = c.args.db.now in
    let r = reading_of c.args.member.now in
    let row : c.index-rows-member.result ≡ row_read db r = row_is db r c.requires.position c.rows_under-rows.result.now c.rows_under-rows.ensures c.index-rows-member.result c.index-rows-member.is in
    let columns : c.as_slice.result.now ≡ columns_of db.schema r.object = c.as_slice.ensures ∙ c.in_ok-columns.ensures ∙ ap (λ (s : SchemaValue). columns_of s r.object) c.schema.ensures in
    values_are db r c.as_slice.result.now columns c.index-rows-member.result row c.in_ok-values.values c.in_ok-values.ensures
