-- A well kept database has a table for each relation of its schema, and each object names one of these; so the table there has the object's rows.
use Rattle.std.proofs.Common.{◌≡◌, map, Some, subst}
use Rattle.std.specs.Prelude.{slice_get}
use Rattle.su_schema.specs.SchemaValue.{SchemaValue}
use Rattle.su_window.proofs.TakenValues.{relation_within, rows_are}
use Rattle.su_clash.proofs.columns.rows_under.Goals as goal

pub bounds-tables-relation : goal.bounds-tables-relation
bounds-tables-relation c =
    relation_within c.args.db.now c.keeps_its_rules.ensures c.args.object c.requires c.object_relation-relation.result c.tables.result.now c.tables.ensures
    (subst (λ (s : SchemaValue). slice_get (map (λ object. object.relation) s.objects) c.args.object ≡ Some c.object_relation-relation.result) c.schema.ensures c.object_relation-relation.ensures)

pub returns : goal.returns
returns c =
    rows_are c.args.db.now c.keeps_its_rules.ensures c.args.object c.requires c.object_relation-relation.result c.tables.result.now c.tables.ensures
    (subst (λ (s : SchemaValue). slice_get (map (λ object. object.relation) s.objects) c.args.object ≡ Some c.object_relation-relation.result) c.schema.ensures c.object_relation-relation.ensures)
    c.index-tables-relation.result c.index-tables-relation.is c.as_slice.result.now c.as_slice.ensures.rows
