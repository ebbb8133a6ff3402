-- Names that are looked up, and the first that isn't known.
-- scope: where names are looked up: the attributes of a schema, or the columns of one of its relations
use Rattle.std.specs.Prelude.{ℕ, List, map, Option, is_none, find, slice_index_or}
use Rattle.su_base.specs.declared.values.Kind.{Kind}
use Rattle.su_base.specs.declared.values.Kind.TheVariants.{Int as IntKind}
use Rattle.su_base.specs.Value.{kind_of}
use Rattle.su_schema.specs.SchemaValue.{SchemaValue}
use Rattle.su_schema.specs.Entries.{attribute_names, attribute_kinds, column_names, place_of}
use Rattle.su_schema.specs.Known.{columns_at, number_of}
use Rattle.su_query.specs.declared.refs.Ref.{Ref as ARef}
use Rattle.su_query.specs.declared.refs.NamedOperand.{NamedOperand}
use Rattle.su_query.specs.declared.refs.NamedOperand.TheVariants.{Ref, Const}
use Rattle.su_query.specs.declared.scopes.Scope.{Scope}
use Rattle.su_query.specs.declared.scopes.Scope.TheVariants.{Attributes, Columns}

-- the names of a scope, in the order of their numbers
abbrev pub names_in : SchemaValue → Scope → List (List ℕ)
names_in schema Attributes = attribute_names schema
names_in schema (Columns r) = column_names (columns_at schema r)

-- the kinds of a scope, in the same order
abbrev pub kinds_in : SchemaValue → Scope → List Kind
kinds_in schema Attributes = attribute_kinds schema
kinds_in schema (Columns r) = map (λ c. c.kind) (columns_at schema r)

-- the first of these names that is not known
abbrev pub first_unknown_name : List (List ℕ) → List (List ℕ) → Option (List ℕ)
first_unknown_name known names = find (λ name. is_none (place_of known name)) names

-- the first name by place that is not known
abbrev pub first_unknown : List (List ℕ) → List ARef → Option (List ℕ)
first_unknown known refs = first_unknown_name known (map (λ ref. ref.attribute) refs)

-- the kind of an operand; an unknown name counts as a whole number
abbrev pub kind_in : SchemaValue → Scope → NamedOperand → Kind
kind_in schema scope (Ref ref) = slice_index_or (kinds_in schema scope) (number_of (names_in schema scope) ref.attribute) IntKind
kind_in schema scope (Const v) = kind_of v
