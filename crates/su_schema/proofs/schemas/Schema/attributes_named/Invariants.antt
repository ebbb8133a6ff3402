use Rattle.su_schema.specs.Entries.{attribute_names}
use Rattle.su_schema.proofs.NamesSoFar.{NamesSoFar}
use Rattle.su_schema.proofs.schemas.Schema.attributes_named.Given as goal

abbrev pub invariant-loop-name : goal.invariant-loop-name
invariant-loop-name l = NamesSoFar (attribute_names l.self) l.names l.name-index l.set
