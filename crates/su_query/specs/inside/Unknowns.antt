-- Names of refs that a scope doesn't have.
-- scope: where names are looked up: the attributes of a schema, or the columns of one of its relations
-- No public contract cites this module.
use Rattle.std.specs.Prelude.{◌≡◌, ◌⊎◌, ℕ, List, None, Some, option_map}
use Rattle.su_schema.specs.SchemaValue.{SchemaValue}
use Rattle.su_schema.specs.Entries.{place_of}
use Rattle.su_query.specs.declared.refs.Ref.{Ref as ARef}
use Rattle.su_query.specs.declared.scopes.Scope.{Scope}
use Rattle.su_query.specs.declared.faults.QueryFault.{QueryFault}
use Rattle.su_query.specs.declared.faults.QueryFault.TheVariants.{NoMemory}
use Rattle.su_query.specs.Scopes.{names_in, first_unknown}
use Rattle.su_query.specs.Lookup.{unknown_in}

-- the scope doesn't have the name, and the fault tells it
abbrev pub IsUnknown : SchemaValue → Scope → List ℕ → QueryFault → Type 0
IsUnknown schema scope name fault = (place_of (names_in schema scope) name ≡ None) × (fault ≡ unknown_in scope name)

-- want of memory, or the first name of these refs that the scope doesn't have
abbrev pub IsRefRefusal : SchemaValue → Scope → List ARef → QueryFault → Type 0
IsRefRefusal schema scope refs fault = (fault ≡ NoMemory) ⊎ (option_map (unknown_in scope) (first_unknown (names_in schema scope) refs) ≡ Some fault)
