-- Name, relation and pairs are read from one entry, whose relation is one of the schema's by its rules; so together they are its definition.
use Rattle.std.proofs.Common.{◌≡◌, [], length}
use Rattle.std.specs.List.{range_with_len, filter_map}
use Rattle.std.proofs.lemmas.Option.{get_or_from_slice_get}
use Rattle.su_schema.specs.declared.definitions.Definition.TheVariants.{Object}
use Rattle.su_schema.specs.SchemaValue.{ObjectEntry}
use Rattle.su_schema.specs.Entries.{relation_names}
use Rattle.su_ddl.specs.ShownDefinitions.{name_at, pair_of}
use Rattle.su_ddl.proofs.Lines.{three_fields, stored}
use Rattle.su_ddl.proofs.entries.object_at.Goals as goal

pub relation_name-requires : goal.relation_name-requires
relation_name-requires c = stored c.args.schema.now c.args.o c.object_relation-r.result c.keeps_its_rules.ensures c.object_relation-r.ensures

pub returns : goal.returns
returns c =
    let schema = c.args.schema.now in
    let named : name_at (relation_names schema) c.object_relation-r.result ≡ c.relation_name.result.now =
    get_or_from_slice_get (relation_names schema) c.object_relation-r.result c.relation_name.result.now [] c.relation_name.ensures in
    rw (c.in_ok-name.ensures, c.in_ok-relation.ensures, ← named)
    (three_fields (λ x. x.name) (λ x. x.relation) (λ (x : ObjectEntry). filter_map (pair_of schema x) (range_with_len 0 (length schema.attributes))) (λ n r ps. Object n (name_at (relation_names schema) r) ps)
    schema.objects c.args.o c.object_name.result.now c.object_relation-r.result c.in_ok-pairs.pairs c.object_name.ensures c.object_relation-r.ensures c.in_ok-pairs.ensures)
