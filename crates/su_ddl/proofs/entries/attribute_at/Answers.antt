-- Name and kind are read from one entry, so together they are its definition.
use Rattle.su_schema.specs.declared.definitions.Definition.TheVariants.{Attribute}
use Rattle.su_ddl.proofs.Lines.{two_fields}
use Rattle.su_ddl.proofs.entries.attribute_at.Goals as goal

pub returns : goal.returns
returns c =
    rw c.in_ok-name.ensures
    (two_fields (λ x. x.name) (λ x. x.kind) Attribute c.args.schema.now.attributes c.args.a c.attribute_name.result.now c.attribute_kind-kind.result c.attribute_name.ensures c.attribute_kind-kind.ensures)
