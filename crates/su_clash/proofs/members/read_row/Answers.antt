-- The keys seen are the values of the members so far, so a row whose values are new is one member more.
use Rattle.std.proofs.Common.{◌≡◌, ◌⊎◌, map, Result, sym, subst}
use Rattle.std.specs.Prelude.{IfErr}
use Rattle.std.proofs.lemmas.Result.{err_from_is_err_and}
use Rattle.su_clash.specs.declared.faults.ClashFault.{ClashFault}
use Rattle.su_clash.specs.declared.faults.ClashFault.TheVariants.{NoMemory}
use Rattle.su_window.specs.Padded.{row_read, member_read, IsReading}
use Rattle.su_clash.specs.Clash.{reading_of, IsClashRefusal}
use Rattle.su_window.proofs.RowRead.{row_is, within, values_are, seen_more, unchanged, grown}
use Rattle.su_clash.proofs.Pushed.{pushed, refused}
use Rattle.su_clash.proofs.members.read_row.Goals as goal

pub values_in-requires : goal.values_in-requires
values_in-requires c =
    let db = c.args.db.now in
    let r = reading_of c.args.member in
    let row : c.index-rows-member.result ≡ row_read db r = row_is db r c.requires.position c.rows_under-rows.result.now c.rows_under-rows.ensures c.index-rows-member.result c.index-rows-member.is in
    within db c.keeps_its_rules.ensures r (record { object = c.requires.object; position = c.requires.position }) c.args.columns.now c.requires.columns c.index-rows-member.result row

pub returns-in_err-add-clause-refused : goal.returns-in_err-add-clause-refused
returns-in_err-add-clause-refused c =
    let db = c.args.db.now in
    let r = reading_of c.args.member in
    let is : IsReading db r = record { object = c.requires.object; position = c.requires.position } in
    let row : c.index-rows-member.result ≡ row_read db r = row_is db r c.requires.position c.rows_under-rows.result.now c.rows_under-rows.ensures c.index-rows-member.result c.index-rows-member.is in
    let values : c.in_ok-values.values ≡ (member_read db r).values = values_are db r c.args.columns.now c.requires.columns c.index-rows-member.result row c.in_ok-values.values c.in_ok-values.ensures in
    let e = err_from_is_err_and c.from_residual-in_err-add.result c.from_residual-in_err-add.ensures.1 in
    subst (λ (q : Result (Unit {0}) ClashFault). IfErr q (λ fault. (fault ≡ NoMemory) ⊎ IsClashRefusal db fault)) (sym e.1)
    (subst (λ (fault : ClashFault). (fault ≡ NoMemory) ⊎ IsClashRefusal db fault) (sym e.2)
    (refused db r is c.args.seen.now.keys c.is_new.new.seen.keys c.in_ok-values.values c.in_ok-is_new.field-0 c.in_ok-is_new.ensures values c.requires.seen c.args.members.now c.requires.so_far c.if-branch.true c.in_err-add.field-0.0 c.in_err-add.ensures.refused))

pub returns-in_ok-add-clause-seen : goal.returns-in_ok-add-clause-seen
returns-in_ok-add-clause-seen c =
    let db = c.args.db.now in
    let r = reading_of c.args.member in
    let is : IsReading db r = record { object = c.requires.object; position = c.requires.position } in
    let row : c.index-rows-member.result ≡ row_read db r = row_is db r c.requires.position c.rows_under-rows.result.now c.rows_under-rows.ensures c.index-rows-member.result c.index-rows-member.is in
    let values : c.in_ok-values.values ≡ (member_read db r).values = values_are db r c.args.columns.now c.requires.columns c.index-rows-member.result row c.in_ok-values.values c.in_ok-values.ensures in
    seen_more db r is c.args.seen.now.keys c.is_new.new.seen.keys c.in_ok-values.values c.in_ok-is_new.field-0 c.in_ok-is_new.ensures values c.requires.seen

pub returns-else-branch-clause-seen : goal.returns-else-branch-clause-seen
returns-else-branch-clause-seen c =
    let db = c.args.db.now in
    let r = reading_of c.args.member in
    let is : IsReading db r = record { object = c.requires.object; position = c.requires.position } in
    let row : c.index-rows-member.result ≡ row_read db r = row_is db r c.requires.position c.rows_under-rows.result.now c.rows_under-rows.ensures c.index-rows-member.result c.index-rows-member.is in
    let values : c.in_ok-values.values ≡ (member_read db r).values = values_are db r c.args.columns.now c.requires.columns c.index-rows-member.result row c.in_ok-values.values c.in_ok-values.ensures in
    seen_more db r is c.args.seen.now.keys c.is_new.new.seen.keys c.in_ok-values.values c.in_ok-is_new.field-0 c.in_ok-is_new.ensures values c.requires.seen

pub returns-in_ok-add-clause-so_far : goal.returns-in_ok-add-clause-so_far
returns-in_ok-add-clause-so_far c =
    let db = c.args.db.now in
    let r = reading_of c.args.member in
    let is : IsReading db r = record { object = c.requires.object; position = c.requires.position } in
    let row : c.index-rows-member.result ≡ row_read db r = row_is db r c.requires.position c.rows_under-rows.result.now c.rows_under-rows.ensures c.index-rows-member.result c.index-rows-member.is in
    let values : c.in_ok-values.values ≡ (member_read db r).values = values_are db r c.args.columns.now c.requires.columns c.index-rows-member.result row c.in_ok-values.values c.in_ok-values.ensures in
    grown db r is c.args.seen.now.keys c.is_new.new.seen.keys c.in_ok-values.values c.in_ok-is_new.field-0 c.in_ok-is_new.ensures values c.requires.seen (map reading_of c.args.members.now) c.requires.so_far c.if-branch.true (map reading_of c.add.new.members) (pushed c.args.members.now c.args.member c.add.new.members c.in_ok-add.ensures.added)

pub returns-else-branch-clause-so_far : goal.returns-else-branch-clause-so_far
returns-else-branch-clause-so_far c =
    let db = c.args.db.now in
    let r = reading_of c.args.member in
    let is : IsReading db r = record { object = c.requires.object; position = c.requires.position } in
    let row : c.index-rows-member.result ≡ row_read db r = row_is db r c.requires.position c.rows_under-rows.result.now c.rows_under-rows.ensures c.index-rows-member.result c.index-rows-member.is in
    let values : c.in_ok-values.values ≡ (member_read db r).values = values_are db r c.args.columns.now c.requires.columns c.index-rows-member.result row c.in_ok-values.values c.in_ok-values.ensures in
    unchanged db r is c.args.seen.now.keys c.is_new.new.seen.keys c.in_ok-values.values c.in_ok-is_new.field-0 c.in_ok-is_new.ensures values c.requires.seen (map reading_of c.args.members.now) c.requires.so_far c.if-branch.false
