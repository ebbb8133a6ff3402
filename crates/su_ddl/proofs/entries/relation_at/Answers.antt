-- Name and columns are read from one entry, so they make its definition.
use Rattle.su_schema.specs.declared.definitions.Definition.TheVariants.{Relation}
use Rattle.su_ddl.proofs.Lines.{two_fields}
use Rattle.su_ddl.proofs.entries.relation_at.Goals as goal

pub returns : goal.returns
returns c =
    rw (c.in_ok-name.ensures, c.in_ok-columns.ensures)
    (two_fields (λ x. x.name) (λ x. x.columns) Relation c.args.schema.now.relations c.args.r c.relation_name.result.now c.columns.result.now c.relation_name.ensures c.columns.ensures.at)
