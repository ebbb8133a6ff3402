-- The keys seen are the values of the readings so far, so a row whose values are new is one member more.
use Rattle.std.proofs.Common.{◌≡◌, ◌⊎◌, ◌+◌, List, Result, sym, subst}
use Rattle.std.specs.Prelude.{IfErr}
use Rattle.std.proofs.lemmas.Result.{err_from_is_err_and}
use Rattle.su_window.specs.declared.faults.WindowFault.{WindowFault}
use Rattle.su_window.specs.declared.faults.WindowFault.TheVariants.{NoMemory}
use Rattle.su_window.specs.declared.readings.Reading.{Reading}
use Rattle.su_window.specs.Padded.{row_read, member_read, IsReading}
use Rattle.su_window.specs.inside.Readings.{AreSoFar}
use Rattle.su_window.specs.Refusals.{IsWindowRefusal}
use Rattle.su_window.proofs.RowRead.{row_is, within, values_are, seen_more, unchanged, grown, refused}
use Rattle.su_window.proofs.readings.read_row.Goals as goal
use Rattle.su_window.proofs.readings.read_row.Goals.{then-branch+in_ok-add, else-branch}

pub values_in-requires : goal.values_in-requires
values_in-requires c =
    let db = c.args.db.now in
    let r = c.args.reading in
    let row : c.index-rows-reading.result ≡ row_read db r = row_is db r c.requires.position c.rows_under-rows.result.now c.rows_under-rows.ensures c.index-rows-reading.result c.index-rows-reading.is in
    within db c.keeps_its_rules.ensures r (record { object = c.requires.object; position = c.requires.position }) c.args.columns.now c.requires.columns c.index-rows-reading.result row

pub returns-in_err-add-clause-refused : goal.returns-in_err-add-clause-refused
returns-in_err-add-clause-refused c =
    let db = c.args.db.now in
    let r = c.args.reading in
    let is : IsReading db r = record { object = c.requires.object; position = c.requires.position } in
    let row : c.index-rows-reading.result ≡ row_read db r = row_is db r c.requires.position c.rows_under-rows.result.now c.rows_under-rows.ensures c.index-rows-reading.result c.index-rows-reading.is in
    let values : c.in_ok-values.values ≡ (member_read db r).values = values_are db r c.args.columns.now c.requires.columns c.index-rows-reading.result row c.in_ok-values.values c.in_ok-values.ensures in
    let e = err_from_is_err_and c.from_residual-in_err-add.result c.from_residual-in_err-add.ensures.1 in
    subst (λ (q : Result (Unit {0}) WindowFault). IfErr q (λ fault. (fault ≡ NoMemory) ⊎ IsWindowRefusal db fault)) (sym e.1)
    (subst (λ (fault : WindowFault). (fault ≡ NoMemory) ⊎ IsWindowRefusal db fault) (sym e.2)
    (refused db r is c.args.seen.now.keys c.is_new.new.seen.keys c.in_ok-values.values c.in_ok-is_new.field-0 c.in_ok-is_new.ensures values c.requires.seen c.args.readings.now c.requires.so_far c.if-branch.true c.in_err-add.field-0.0 c.in_err-add.ensures.refused))

pub returns-clause-seen : goal.returns-clause-seen
returns-clause-seen c =
    let db = c.args.db.now in
    let r = c.args.reading in
    let is : IsReading db r = record { object = c.requires.object; position = c.requires.position } in
    let row : c.index-rows-reading.result ≡ row_read db r = row_is db r c.requires.position c.rows_under-rows.result.now c.rows_under-rows.ensures c.index-rows-reading.result c.index-rows-reading.is in
    let values : c.in_ok-values.values ≡ (member_read db r).values = values_are db r c.args.columns.now c.requires.columns c.index-rows-reading.result row c.in_ok-values.values c.in_ok-values.ensures in
    seen_more db r is c.args.seen.now.keys c.is_new.new.seen.keys c.in_ok-values.values c.in_ok-is_new.field-0 c.in_ok-is_new.ensures values c.requires.seen

pub returns-clause-so_far : goal.returns-clause-so_far
returns-clause-so_far c =
    let db = c.args.db.now in
    let r = c.args.reading in
    let is : IsReading db r = record { object = c.requires.object; position = c.requires.position } in
    let row : c.index-rows-reading.result ≡ row_read db r = row_is db r c.requires.position c.rows_under-rows.result.now c.rows_under-rows.ensures c.index-rows-reading.result c.index-rows-reading.is in
    let values : c.in_ok-values.values ≡ (member_read db r).values = values_are db r c.args.columns.now c.requires.columns c.index-rows-reading.result row c.in_ok-values.values c.in_ok-values.ensures in
    elim c.if-branch.branch [
      | then-branch+in_ok-add w ↦
          subst (λ (rs : List Reading). AreSoFar db r.object (r.position + 1) rs) (sym w.readings-is)
          (grown db r is c.args.seen.now.keys c.is_new.new.seen.keys c.in_ok-values.values c.in_ok-is_new.field-0 c.in_ok-is_new.ensures values c.requires.seen c.args.readings.now c.requires.so_far w.if-branch.true _ w.in_ok-add.ensures.added)
      | else-branch w ↦
          subst (λ (rs : List Reading). AreSoFar db r.object (r.position + 1) rs) (sym w.readings-is)
          (unchanged db r is c.args.seen.now.keys c.is_new.new.seen.keys c.in_ok-values.values c.in_ok-is_new.field-0 c.in_ok-is_new.ensures values c.requires.seen c.args.readings.now c.requires.so_far w.if-branch.false)
    ]
