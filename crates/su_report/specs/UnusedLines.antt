-- The lines about what no object uses, each with its advice. Attributes, relations, columns and objects are told by number.
use Rattle.std.specs.Prelude.{ℕ, List, [], ◌∷◌, ◌++◌, codes, slice_index_or}
use Rattle.su_schema.specs.SchemaValue.{SchemaValue}
use Rattle.su_schema.specs.Entries.{attribute_names, relation_names, object_names, column_names}
use Rattle.su_schema.specs.Known.{columns_at}
use Rattle.su_ddl.specs.ShownDefinitions.{name_at}
use Rattle.su_report.specs.Advice.{object_of, object_over, joined, advice}

-- an attribute of no object
abbrev pub attribute_lines : SchemaValue → ℕ → List ℕ
attribute_lines schema a =
    codes "fault attribute " ++ name_at (attribute_names schema) a ++ codes " is of no object\n" ++ advice (object_of (name_at (attribute_names schema) a ∷ []))

-- a relation over which no object stands
abbrev pub relation_lines : SchemaValue → ℕ → List ℕ
relation_lines schema r =
    codes "fault relation " ++ name_at (relation_names schema) r ++ codes " has no object\n"
    ++ advice (object_over (name_at (relation_names schema) r) (column_names (columns_at schema r)))

-- the name of a column of the relation r
abbrev pub column_name : SchemaValue → ℕ → ℕ → List ℕ
column_name schema r c = slice_index_or (column_names (columns_at schema r)) c []

-- a column from which no object takes an attribute
abbrev pub column_lines : SchemaValue → ℕ → ℕ → List ℕ
column_lines schema r c =
    codes "fault column " ++ column_name schema r c ++ codes " of " ++ name_at (relation_names schema) r ++ codes " has no attribute\n"
    ++ advice (object_over (name_at (relation_names schema) r) (column_name schema r c ∷ []))

-- an object that no maximal object joins with another
abbrev pub alone_lines : SchemaValue → ℕ → List ℕ
alone_lines schema o =
    codes "note object " ++ name_at (object_names schema) o ++ codes " is joined with no other\n" ++ advice (joined (name_at (object_names schema) o))
