-- The readings are the members, and their padded rows chased are the representative instance; two constants that meet are the refusal's.
use Rattle.std.proofs.Common.{rules, ◌≡◌, inr, ap, ◌∙◌}
use Rattle.su_schema.specs.SchemaValue.{SchemaValue}
use Rattle.su_chase.specs.Chase.{IsClash}
use Rattle.su_window.specs.Padded.{padded_rows}
use Rattle.su_window.proofs.Whole.{can_close, refused_told, represents_told}
use Rattle.su_window.proofs.windows.represent.Goals as goal

pub close-requires : goal.close-requires
close-requires c =
    let db = c.args.db.now in
    let readings = c.in_ok-readings.readings in
    let fds : c.fds.result.now ≡ db.schema.fds = c.fds.ensures ∙ ap (λ (s : SchemaValue). s.fds) c.schema-2.ensures in
    let rows : c.as_slice-4.result.now ≡ padded_rows db readings = c.as_slice-4.ensures ∙ c.in_ok-rows.ensures ∙ ap (padded_rows db) c.as_slice-3.ensures in
    record { rows = can_close db c.keeps_its_rules.ensures readings c.in_ok-readings.ensures.readings c.in_ok-readings.ensures.few c.fds.result.now fds c.as_slice-4.result.now rows }

pub returns-in-Some-clause-refused : goal.returns-in-Some-clause-refused
returns-in-Some-clause-refused c =
    let db = c.args.db.now in
    let readings = c.in_ok-readings.readings in
    let fds : c.fds.result.now ≡ db.schema.fds = c.fds.ensures ∙ ap (λ (s : SchemaValue). s.fds) c.schema-2.ensures in
    let rows : c.as_slice-4.result.now ≡ padded_rows db readings = c.as_slice-4.ensures ∙ c.in_ok-rows.ensures ∙ ap (padded_rows db) c.as_slice-3.ensures in
    let clash : IsClash c.fds.result.now c.as_slice-4.result.now c.in-Some.less c.in-Some.greater = search rules in
    inr (refused_told db c.keeps_its_rules.ensures readings c.in_ok-readings.ensures.readings c.in_ok-readings.ensures.few c.fds.result.now fds c.as_slice-4.result.now rows c.in-Some.less c.in-Some.greater clash)

pub returns-clause-is : goal.returns-clause-is
returns-clause-is c =
    let db = c.args.db.now in
    let readings = c.in_ok-readings.readings in
    let closed = c.in_ok-names.field-0 in
    let fds : c.fds.result.now ≡ db.schema.fds = c.fds.ensures ∙ ap (λ (s : SchemaValue). s.fds) c.schema-2.ensures in
    let rows : c.as_slice-4.result.now ≡ padded_rows db readings = c.as_slice-4.ensures ∙ c.in_ok-rows.ensures ∙ ap (padded_rows db) c.as_slice-3.ensures in
    represents_told db c.keeps_its_rules.ensures readings c.in_ok-readings.ensures.readings c.in_ok-readings.ensures.few c.fds.result.now fds c.as_slice-4.result.now rows closed.names c.in_ok-names.ensures.all c.in_ok-names.ensures.names closed.clash c.in_ok-names.ensures.clash c.in-None.is c.in_ok-rows.rows (c.in_ok-rows.ensures ∙ ap (padded_rows db) c.as_slice-3.ensures)
