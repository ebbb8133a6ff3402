-- A breach through the object is a clash of the row with a stored one on the columns of the two sides, where the dependency lies in the object; else nothing is enforced.
use Rattle.std.proofs.Common.{◌≡◌, length, slice_get, get_or, Some, None, refl, sym, ap, ◌∙◌, arith}
use Rattle.std.proofs.lemmas.Option.{slice_get-get_or, slice_get_read}
use Rattle.su_schema.specs.SchemaValue.{ObjectEntry}
use Rattle.su_schema.specs.Known.{columns_at}
use Rattle.su_schema.proofs.Entries.{blank_object}
use Rattle.su_state.specs.inside.Sides.{row_at}
use Rattle.su_state.proofs.Columns.{columns_few, some_left, break_from_clash}
use Rattle.su_state.proofs.BrokenDependency.{of_object, elsewhere, not_enforced, no_clash, least_first}
use Rattle.su_state.proofs.breaches.breach_through.Goals as goal

pub least_breach-requires-clause-few : goal.least_breach-requires-clause-few
least_breach-requires-clause-few c = omega (arith, columns_few c.args.schema.now c.args.relation c.keeps_its_rules.ensures c.requires.relation)

pub least_breach-requires-clause-some : goal.least_breach-requires-clause-some
least_breach-requires-clause-some c =
    let entry : ObjectEntry = get_or c.args.schema.now.objects c.args.object blank_object in
    let placed : slice_get c.args.schema.now.objects c.args.object ≡ Some entry = slice_get-get_or c.args.schema.now.objects c.args.object blank_object c.requires.object in
    let numbered : slice_get c.args.schema.now.fds c.args.fd ≡ Some c.index-fds-fd.result = slice_get_read c.args.schema.now.fds (length c.args.schema.now.fds) c.args.fd c.index-fds-fd.result refl c.requires.fd (c.index-fds-fd.is ∙ ap (λ fds. get_or fds c.args.fd c.index-fds-fd.result) c.fds.ensures) in
    let on : entry.relation ≡ c.object_relation.result = of_object (λ e. e.relation) c.args.schema.now.objects c.args.object entry c.object_relation.result placed c.object_relation.ensures in
    let some = some_left c.args.schema.now c.args.object c.args.fd entry c.index-fds-fd.result c.in_ok-sides.sides c.keeps_its_rules.ensures placed numbered (c.in_ok-sides.ensures entry placed) in
    let width : length (columns_at c.args.schema.now entry.relation) ≡ c.args.table.now.width = ap (λ r. length (columns_at c.args.schema.now r)) (on ∙ c.if-object_relation-relation.false) ∙ sym c.requires.width in
    (some.0, some.1, omega (arith, some.2, width))

pub least_breach-requires-clause-keeps : goal.least_breach-requires-clause-keeps
least_breach-requires-clause-keeps c =
    let entry : ObjectEntry = get_or c.args.schema.now.objects c.args.object blank_object in
    let placed : slice_get c.args.schema.now.objects c.args.object ≡ Some entry = slice_get-get_or c.args.schema.now.objects c.args.object blank_object c.requires.object in
    let numbered : slice_get c.args.schema.now.fds c.args.fd ≡ Some c.index-fds-fd.result = slice_get_read c.args.schema.now.fds (length c.args.schema.now.fds) c.args.fd c.index-fds-fd.result refl c.requires.fd (c.index-fds-fd.is ∙ ap (λ fds. get_or fds c.args.fd c.index-fds-fd.result) c.fds.ensures) in
    let on : entry.relation ≡ c.object_relation.result = of_object (λ e. e.relation) c.args.schema.now.objects c.args.object entry c.object_relation.result placed c.object_relation.ensures in
    λ one other here there clash.
    c.requires.keeps c.index-fds-fd.result entry numbered placed (on ∙ c.if-object_relation-relation.false) one other here there (break_from_clash entry c.index-fds-fd.result c.in_ok-sides.sides one other (c.in_ok-sides.ensures entry placed) clash)

pub returns-then-object_relation-relation : goal.returns-then-object_relation-relation
returns-then-object_relation-relation c =
    elsewhere c.args.schema.now c.args.relation c.args.table.now.rows c.args.row.now c.args.fd c.args.object c.object_relation.result c.object_relation.ensures c.if-object_relation-relation.true

pub returns-in_err-sides : goal.returns-in_err-sides
returns-in_err-sides c =
    let entry : ObjectEntry = get_or c.args.schema.now.objects c.args.object blank_object in
    let placed : slice_get c.args.schema.now.objects c.args.object ≡ Some entry = slice_get-get_or c.args.schema.now.objects c.args.object blank_object c.requires.object in
    let numbered : slice_get c.args.schema.now.fds c.args.fd ≡ Some c.index-fds-fd.result = slice_get_read c.args.schema.now.fds (length c.args.schema.now.fds) c.args.fd c.index-fds-fd.result refl c.requires.fd (c.index-fds-fd.is ∙ ap (λ fds. get_or fds c.args.fd c.index-fds-fd.result) c.fds.ensures) in
    let gone : c.from_residual.result ≡ None = grind arith in
    rw gone (not_enforced c.args.schema.now c.args.relation c.args.table.now.rows c.args.row.now c.args.fd c.args.object c.index-fds-fd.result entry numbered placed (c.in_err-sides.ensures entry placed))

pub returns-in_err-position : goal.returns-in_err-position
returns-in_err-position c =
    let entry : ObjectEntry = get_or c.args.schema.now.objects c.args.object blank_object in
    let placed : slice_get c.args.schema.now.objects c.args.object ≡ Some entry = slice_get-get_or c.args.schema.now.objects c.args.object blank_object c.requires.object in
    let numbered : slice_get c.args.schema.now.fds c.args.fd ≡ Some c.index-fds-fd.result = slice_get_read c.args.schema.now.fds (length c.args.schema.now.fds) c.args.fd c.index-fds-fd.result refl c.requires.fd (c.index-fds-fd.is ∙ ap (λ fds. get_or fds c.args.fd c.index-fds-fd.result) c.fds.ensures) in
    let gone : c.from_residual-in_err-position.result ≡ None = grind arith in
    rw gone (no_clash c.args.schema.now c.args.relation c.args.table.now.rows c.args.row.now c.args.fd c.args.object c.index-fds-fd.result entry numbered placed c.in_ok-sides.sides (c.in_ok-sides.ensures entry placed) c.in_err-position.ensures)

pub returns : goal.returns
returns c =
    let entry : ObjectEntry = get_or c.args.schema.now.objects c.args.object blank_object in
    let placed : slice_get c.args.schema.now.objects c.args.object ≡ Some entry = slice_get-get_or c.args.schema.now.objects c.args.object blank_object c.requires.object in
    let numbered : slice_get c.args.schema.now.fds c.args.fd ≡ Some c.index-fds-fd.result = slice_get_read c.args.schema.now.fds (length c.args.schema.now.fds) c.args.fd c.index-fds-fd.result refl c.requires.fd (c.index-fds-fd.is ∙ ap (λ fds. get_or fds c.args.fd c.index-fds-fd.result) c.fds.ensures) in
    let on : entry.relation ≡ c.object_relation.result = of_object (λ e. e.relation) c.args.schema.now.objects c.args.object entry c.object_relation.result placed c.object_relation.ensures in
    let other = row_at c.args.table.now.rows c.in_ok-position.position in
    let first = least_first c.args.schema.now c.args.relation c.args.table.now.rows c.args.row.now c.args.fd c.args.object c.index-fds-fd.result entry numbered placed c.in_ok-sides.sides other (c.in_ok-sides.ensures entry placed) (on ∙ c.if-object_relation-relation.false) c.in_ok-position.ensures.1 in
    (c.in_ok-position.ensures.0, first)
