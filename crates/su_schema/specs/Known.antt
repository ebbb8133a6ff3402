-- Names among names, and what a schema knows by them.
-- known: a name among names; its number is its place there
use Rattle.std.specs.Prelude.{ℕ, Bool, List, [], map, slice_index_or}
use Rattle.std.specs.List.{list_any}
use Rattle.std.specs.Str.{bytes_eq}
use Rattle.su_base.specs.declared.values.Kind.{Kind}
use Rattle.su_base.specs.declared.values.Kind.TheVariants.{Int}
use Rattle.su_base.specs.declared.values.Column.{Column}
use Rattle.su_schema.specs.SchemaValue.{SchemaValue}
use Rattle.su_schema.specs.Entries.{attribute_names, attribute_kinds, relation_columns, column_names}
pub use Rattle.su_schema.specs.Entries.{number_of}

-- the name is one of these
abbrev pub is_known : List (List ℕ) → List ℕ → Bool
is_known names name = list_any (λ n. bytes_eq name n) names

-- the columns of the relation with this number
abbrev pub columns_at : SchemaValue → ℕ → List Column
columns_at schema r = slice_index_or (relation_columns schema) r []

-- the kind of a named attribute; an unknown one counts as a number
abbrev pub attribute_kind : SchemaValue → List ℕ → Kind
attribute_kind schema name = slice_index_or (attribute_kinds schema) (number_of (attribute_names schema) name) Int

-- the kind of a named column; an unknown one counts as a number
abbrev pub column_kind : List Column → List ℕ → Kind
column_kind columns name = slice_index_or (map (λ c. c.kind) columns) (number_of (column_names columns) name) Int
