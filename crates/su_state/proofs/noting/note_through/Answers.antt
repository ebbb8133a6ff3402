-- A table sees no change where it notes its rows, so putting it back leaves all tables as they are.
use Rattle.std.proofs.Common.{◌≡◌, arith, slice_get, Some, get_or, subst, length, ◌<◌, ℕ}
use Rattle.std.proofs.lemmas.Option.{slice_get-get_or}
use Rattle.su_schema.specs.SchemaValue.{ObjectEntry}
use Rattle.su_state.proofs.BrokenDependency.{of_object}
use Rattle.su_schema.proofs.Entries.{blank_object}
use Rattle.su_state.proofs.noting.note_through.Goals as goal

pub index_mut-requires : goal.index_mut-requires
index_mut-requires c =
    let entry : ObjectEntry = get_or c.args.schema.now.objects c.args.object blank_object in
    let placed : slice_get c.args.schema.now.objects c.args.object ≡ Some entry = slice_get-get_or c.args.schema.now.objects c.args.object blank_object c.requires.object in
    let on : entry.relation ≡ c.object_relation.result = of_object (λ e. e.relation) c.args.schema.now.objects c.args.object entry c.object_relation.result placed c.object_relation.ensures in
    let within : c.object_relation.result < length c.args.tables.now.items = subst (λ (r : ℕ). r < length c.args.tables.now.items) on (c.requires.tables c.args.object entry placed).0 in
    omega (arith, within, c.args.tables.now.ok.0)
