use Rattle.std.proofs.Common.{◌≡◌, take, drop}
use Rattle.su_schema.specs.Entries.{attribute_names}
use Rattle.su_query.specs.Scopes.{first_unknown_name}
use Rattle.su_query.specs.Sets.{attributes_named}
use Rattle.su_query.proofs.sets.resolve_attributes.Given as goal

abbrev pub invariant-loop-name : goal.invariant-loop-name
invariant-loop-name l = record {
  named : l.set ≡ attributes_named l.schema (take l.name-index l.names);
  known : first_unknown_name (attribute_names l.schema) (drop l.name-index l.names) ≡ first_unknown_name (attribute_names l.schema) l.names;
}
