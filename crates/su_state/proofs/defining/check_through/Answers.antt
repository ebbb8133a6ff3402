-- The table of the object's relation has that relation's columns, so the least pair of clashing rows there is the first breach of the dependency through the object.
use Rattle.std.proofs.Common.{◌≡◌, ◌<◌, ℕ, List, length, slice_get, get_or, Some, refl, sym, ap, subst, ◌∙◌, ◌++◌, [], append-nil, Contains, arith}
use Rattle.std.proofs.lemmas.Bool.{OnTrue_at}
use Rattle.std.proofs.lemmas.Option.{slice_get-get_or, slice_get_read}
use Rattle.su_base.specs.declared.values.Value.{Value}
use Rattle.su_schema.specs.SchemaValue.{ObjectEntry}
use Rattle.su_schema.specs.Known.{columns_at}
use Rattle.su_state.specs.Breaches.{Breach}
use Rattle.su_state.specs.inside.Pairs.{IsLeastPair}
use Rattle.su_state.specs.inside.Sides.{Clash, row_at}
use Rattle.su_schema.proofs.Entries.{blank_object}
use Rattle.su_state.proofs.Columns.{columns_few, some_left, object_on}
use Rattle.su_state.proofs.Filled.{short}
use Rattle.su_state.proofs.Least.{row_there}
use Rattle.su_state.proofs.BrokenDependency.{of_object}
use Rattle.su_state.proofs.StoredBreaches.{own_width, told_is, none_stored, least_stored}
use Rattle.su_state.proofs.defining.check_through.Goals as goal

pub bounds-tables-object_relation : goal.bounds-tables-object_relation
bounds-tables-object_relation c =
    let entry : ObjectEntry = get_or c.args.schema.now.objects c.args.object blank_object in
    let placed : slice_get c.args.schema.now.objects c.args.object ≡ Some entry = slice_get-get_or c.args.schema.now.objects c.args.object blank_object c.requires.object in
    let on : entry.relation ≡ c.object_relation.result = of_object (λ e. e.relation) c.args.schema.now.objects c.args.object entry c.object_relation.result placed c.object_relation.ensures in
    subst (λ (r : ℕ). r < length c.args.tables.now) on (c.requires.tables c.args.object entry placed).0

pub least_pair-requires-clause-few : goal.least_pair-requires-clause-few
least_pair-requires-clause-few c =
    let entry : ObjectEntry = get_or c.args.schema.now.objects c.args.object blank_object in
    let placed : slice_get c.args.schema.now.objects c.args.object ≡ Some entry = slice_get-get_or c.args.schema.now.objects c.args.object blank_object c.requires.object in
    let on : entry.relation ≡ c.object_relation.result = of_object (λ e. e.relation) c.args.schema.now.objects c.args.object entry c.object_relation.result placed c.object_relation.ensures in
    let numbered : slice_get c.args.schema.now.fds c.args.fd ≡ Some c.index-fds-fd.result = slice_get_read c.args.schema.now.fds (length c.args.schema.now.fds) c.args.fd c.index-fds-fd.result refl c.requires.fd (c.index-fds-fd.is ∙ ap (λ fds. get_or fds c.args.fd c.index-fds-fd.result) c.fds.ensures) in
    let width : c.index-tables-object_relation.result.width ≡ length (columns_at c.args.schema.now entry.relation) = own_width c.args.schema.now c.args.tables.now c.args.fd c.args.object c.object_relation.result c.index-fds-fd.result entry c.index-tables-object_relation.result numbered placed c.requires.tables on c.index-tables-object_relation.is in
    omega (arith, width, columns_few c.args.schema.now entry.relation c.keeps_its_rules.ensures (object_on c.args.schema.now c.args.object entry c.keeps_its_rules.ensures placed))

pub least_pair-requires-clause-some : goal.least_pair-requires-clause-some
least_pair-requires-clause-some c =
    let entry : ObjectEntry = get_or c.args.schema.now.objects c.args.object blank_object in
    let placed : slice_get c.args.schema.now.objects c.args.object ≡ Some entry = slice_get-get_or c.args.schema.now.objects c.args.object blank_object c.requires.object in
    let on : entry.relation ≡ c.object_relation.result = of_object (λ e. e.relation) c.args.schema.now.objects c.args.object entry c.object_relation.result placed c.object_relation.ensures in
    let numbered : slice_get c.args.schema.now.fds c.args.fd ≡ Some c.index-fds-fd.result = slice_get_read c.args.schema.now.fds (length c.args.schema.now.fds) c.args.fd c.index-fds-fd.result refl c.requires.fd (c.index-fds-fd.is ∙ ap (λ fds. get_or fds c.args.fd c.index-fds-fd.result) c.fds.ensures) in
    let width : c.index-tables-object_relation.result.width ≡ length (columns_at c.args.schema.now entry.relation) = own_width c.args.schema.now c.args.tables.now c.args.fd c.args.object c.object_relation.result c.index-fds-fd.result entry c.index-tables-object_relation.result numbered placed c.requires.tables on c.index-tables-object_relation.is in
    let some = some_left c.args.schema.now c.args.object c.args.fd entry c.index-fds-fd.result c.in-Some.sides c.keeps_its_rules.ensures placed numbered (c.in-Some.ensures entry placed) in
    (some.0, some.1, omega (arith, some.2, width))

pub returns-in_ok-copy_row-in-Some-least-2-clause-refused :
    goal.returns-in_ok-copy_row-in-Some-least-2-clause-refused
returns-in_ok-copy_row-in-Some-least-2-clause-refused c =
    let entry : ObjectEntry = get_or c.args.schema.now.objects c.args.object blank_object in
    let placed : slice_get c.args.schema.now.objects c.args.object ≡ Some entry = slice_get-get_or c.args.schema.now.objects c.args.object blank_object c.requires.object in
    let on : entry.relation ≡ c.object_relation.result = of_object (λ e. e.relation) c.args.schema.now.objects c.args.object entry c.object_relation.result placed c.object_relation.ensures in
    let numbered : slice_get c.args.schema.now.fds c.args.fd ≡ Some c.index-fds-fd.result = slice_get_read c.args.schema.now.fds (length c.args.schema.now.fds) c.args.fd c.index-fds-fd.result refl c.requires.fd (c.index-fds-fd.is ∙ ap (λ fds. get_or fds c.args.fd c.index-fds-fd.result) c.fds.ensures) in
    let named = c.in_ok-new-in-Some-least.ensures ∙ sym (of_object (λ e. e.name) c.args.schema.now.objects c.args.object entry c.object_name.result.now placed c.object_name.ensures) in
    let rows = c.index-tables-object_relation.result.rows in
    let first = row_there c.index-tables-object_relation.result.rows c.in-Some-least.pair.first c.row.result.now c.row.ensures ∙ sym c.in_ok-copy_row-in-Some-least.ensures in
    let second = row_there c.index-tables-object_relation.result.rows c.in-Some-least.pair.second c.row-in-Some-least.result.now c.row-in-Some-least.ensures ∙ sym c.in_ok-copy_row-in-Some-least-2.ensures in
    let found = rw c.in-Some-least.is at c.in_ok-least.ensures in
    let pair : IsLeastPair c.in-Some.sides rows c.in_ok-copy_row-in-Some-least.field-0 c.in_ok-copy_row-in-Some-least-2.field-0 =
    subst (λ (row : List Value). IsLeastPair c.in-Some.sides rows row c.in_ok-copy_row-in-Some-least-2.field-0) first
    (subst (λ (row : List Value). IsLeastPair c.in-Some.sides rows (row_at rows c.in-Some-least.pair.first) row) second found.2) in
    let breach : Breach = record { dependency = c.args.fd; object = c.args.object; first = c.in_ok-copy_row-in-Some-least.field-0; second = c.in_ok-copy_row-in-Some-least-2.field-0 } in
    let least = least_stored c.args.schema.now c.args.tables.now c.args.fd c.args.object c.object_relation.result c.index-fds-fd.result entry c.index-tables-object_relation.result numbered placed c.requires.tables on c.index-tables-object_relation.is c.in-Some.sides c.in_ok-copy_row-in-Some-least.field-0 c.in_ok-copy_row-in-Some-least-2.field-0 (c.in-Some.ensures entry placed) pair in
    let told = told_is c.args.schema.now c.args.tables.now c.args.fd c.args.object c.index-fds-fd.result entry numbered placed c.in_ok-new-in-Some-least.field-0 c.in_ok-copy_row-in-Some-least.field-0 c.in_ok-copy_row-in-Some-least-2.field-0 named in
    (breach, least, told)

pub returns-in-None-clause-holds : goal.returns-in-None-clause-holds
returns-in-None-clause-holds c =
    let entry : ObjectEntry = get_or c.args.schema.now.objects c.args.object blank_object in
    let placed : slice_get c.args.schema.now.objects c.args.object ≡ Some entry = slice_get-get_or c.args.schema.now.objects c.args.object blank_object c.requires.object in
    let on : entry.relation ≡ c.object_relation.result = of_object (λ e. e.relation) c.args.schema.now.objects c.args.object entry c.object_relation.result placed c.object_relation.ensures in
    let numbered : slice_get c.args.schema.now.fds c.args.fd ≡ Some c.index-fds-fd.result = slice_get_read c.args.schema.now.fds (length c.args.schema.now.fds) c.args.fd c.index-fds-fd.result refl c.requires.fd (c.index-fds-fd.is ∙ ap (λ fds. get_or fds c.args.fd c.index-fds-fd.result) c.fds.ensures) in
    let none = rw c.in-None.is at c.in_ok-least.ensures in
    none_stored c.args.schema.now c.args.tables.now c.args.fd c.args.object c.object_relation.result c.index-fds-fd.result entry c.index-tables-object_relation.result numbered placed c.requires.tables on c.index-tables-object_relation.is c.in-Some.sides (c.in-Some.ensures entry placed) none

pub none_clash-requires-clause-stored : goal.none_clash-requires-clause-stored
none_clash-requires-clause-stored c =
    let entry : ObjectEntry = get_or c.args.schema.now.objects c.args.object blank_object in
    let placed : slice_get c.args.schema.now.objects c.args.object ≡ Some entry = slice_get-get_or c.args.schema.now.objects c.args.object blank_object c.requires.object in
    let on : entry.relation ≡ c.object_relation.result = of_object (λ e. e.relation) c.args.schema.now.objects c.args.object entry c.object_relation.result placed c.object_relation.ensures in
    let numbered : slice_get c.args.schema.now.fds c.args.fd ≡ Some c.index-fds-fd.result = slice_get_read c.args.schema.now.fds (length c.args.schema.now.fds) c.args.fd c.index-fds-fd.result refl c.requires.fd (c.index-fds-fd.is ∙ ap (λ fds. get_or fds c.args.fd c.index-fds-fd.result) c.fds.ensures) in
    let width : c.index-tables-object_relation.result.width ≡ length (columns_at c.args.schema.now entry.relation) = own_width c.args.schema.now c.args.tables.now c.args.fd c.args.object c.object_relation.result c.index-fds-fd.result entry c.index-tables-object_relation.result numbered placed c.requires.tables on c.index-tables-object_relation.is in
    rw c.as_slice.ensures.rows (short c.index-tables-object_relation.result.rows c.index-tables-object_relation.result.width (omega (arith, width, columns_few c.args.schema.now entry.relation c.keeps_its_rules.ensures (object_on c.args.schema.now c.args.object entry c.keeps_its_rules.ensures placed))) c.as_slice.ensures.relation.width)

pub returns-then-branch-clause-holds : goal.returns-then-branch-clause-holds
returns-then-branch-clause-holds c =
    let entry : ObjectEntry = get_or c.args.schema.now.objects c.args.object blank_object in
    let placed : slice_get c.args.schema.now.objects c.args.object ≡ Some entry = slice_get-get_or c.args.schema.now.objects c.args.object blank_object c.requires.object in
    let on : entry.relation ≡ c.object_relation.result = of_object (λ e. e.relation) c.args.schema.now.objects c.args.object entry c.object_relation.result placed c.object_relation.ensures in
    let numbered : slice_get c.args.schema.now.fds c.args.fd ≡ Some c.index-fds-fd.result = slice_get_read c.args.schema.now.fds (length c.args.schema.now.fds) c.args.fd c.index-fds-fd.result refl c.requires.fd (c.index-fds-fd.is ∙ ap (λ fds. get_or fds c.args.fd c.index-fds-fd.result) c.fds.ensures) in
    let rows : c.as_slice.result.now ++ [] ≡ c.index-tables-object_relation.result.rows = append-nil c.as_slice.result.now ∙ c.as_slice.ensures.rows in
    let all : (row other : List Value) → Contains (c.as_slice.result.now ++ []) row → Contains (c.as_slice.result.now ++ []) other → ¬ Clash c.in-Some.sides row other = OnTrue_at c.if-branch.true c.in_ok-none_clash.ensures in
    let none : (row other : List Value) → Contains c.index-tables-object_relation.result.rows row → Contains c.index-tables-object_relation.result.rows other → ¬ Clash c.in-Some.sides row other =
    subst (λ (rs : List (List Value)). (row other : List Value) → Contains rs row → Contains rs other → ¬ Clash c.in-Some.sides row other) rows all in
    none_stored c.args.schema.now c.args.tables.now c.args.fd c.args.object c.object_relation.result c.index-fds-fd.result entry c.index-tables-object_relation.result numbered placed c.requires.tables on c.index-tables-object_relation.is c.in-Some.sides (c.in-Some.ensures entry placed) none
