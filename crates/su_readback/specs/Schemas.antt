-- The lines of a schema's reply, as words.
-- shown: a schema with its maximal objects, as the reply to `schema` has them
use Rattle.std.specs.Prelude.{ℕ, ◌+◌, nat_lt, if◌then◌else◌, List, [], ◌∷◌, ◌++◌, length, map, codes, decimal}
use Rattle.std.specs.Ordering.{nat_cmp}
use Rattle.std.specs.FinSet.{FinSet}
use Rattle.su_base.specs.declared.values.Kind.{Kind}
use Rattle.su_base.specs.declared.values.Kind.TheVariants as kind
use Rattle.su_base.specs.declared.values.Column.{Column}
use Rattle.su_schema.specs.declared.definitions.Definition.{Definition}
use Rattle.su_schema.specs.declared.definitions.Definition.TheVariants.{Attribute, Relation, Object, Fd, Maximal}
use Rattle.su_schema.specs.SchemaValue.{SchemaValue}
use Rattle.su_schema.specs.Entries.{object_names}
use Rattle.su_ddl.specs.ShownDefinitions.{names_in, definitions_of}
use Rattle.su_explained.specs.declared.kinds.Kind.{Kind as LineKind}
use Rattle.su_explained.specs.declared.kinds.Kind.TheVariants as line
use Rattle.su_explained.specs.declared.reading.Line.{Line}

-- the word of a kind
abbrev pub kind_word : Kind → List ℕ
kind_word kind.Int = codes "int"
kind_word kind.Text = codes "text"

-- these bytes behind the last word
abbrev pub closed_by : List ℕ → List (List ℕ) → List (List ℕ)
closed_by end [] = []
closed_by end (w ∷ []) = (w ++ end) ∷ []
closed_by end (w ∷ v ∷ ws) = w ∷ closed_by end (v ∷ ws)

-- a comma (44) behind each word but the last
abbrev pub with_commas : List (List ℕ) → List (List ℕ)
with_commas [] = []
with_commas (w ∷ []) = w ∷ []
with_commas (w ∷ v ∷ ws) = (w ++ 44 ∷ []) ∷ with_commas (v ∷ ws)

-- a parenthesis (40) before the first word
abbrev pub opened : List (List ℕ) → List (List ℕ)
opened [] = []
opened (w ∷ ws) = (40 ∷ w) ∷ ws

-- columns, each a name and a kind
abbrev pub column_words : List Column → List (List ℕ)
column_words [] = []
column_words (c ∷ []) = c.name ∷ kind_word c.kind ∷ []
column_words (c ∷ d ∷ cs) = c.name ∷ (kind_word c.kind ++ 44 ∷ []) ∷ column_words (d ∷ cs)

-- the words of a definition; the last has a semicolon
abbrev pub definition_words : Definition → List (List ℕ)
definition_words (Attribute name kind) = codes "attribute" ∷ name ∷ (kind_word kind ++ codes ";") ∷ []
definition_words (Relation name columns) = codes "relation" ∷ name ∷ opened (closed_by (codes ");") (column_words columns))
definition_words (Object name relation pairs) =
    codes "object" ∷ name ∷ opened (closed_by (codes ")") (with_commas (map (λ p. p.attribute) pairs)))
    ++ codes "from" ∷ relation ∷ opened (closed_by (codes ");") (with_commas (map (λ p. p.column) pairs)))
definition_words (Fd left right) = codes "fd" ∷ with_commas left ++ codes "->" ∷ closed_by (codes ";") (with_commas right)
definition_words (Maximal objects) = codes "maximal" ∷ opened (closed_by (codes ");") (with_commas objects))

-- what the line of a definition is
abbrev pub definition_kind : Definition → LineKind
definition_kind (Attribute name kind) = line.Attribute
definition_kind (Relation name columns) = line.Relation
definition_kind (Object name relation pairs) = line.Object
definition_kind (Fd left right) = line.Dependency
definition_kind (Maximal objects) = line.Declared

abbrev pub definition_line : Definition → Line
definition_line d = record { kind = definition_kind d; words = definition_words d }

-- the line of a maximal object, by its number
abbrev pub maximal_line_of : SchemaValue → ℕ → FinSet nat_cmp → Line
maximal_line_of schema number set =
    record { kind = line.Maximal; words = codes "--" ∷ codes "maximal" ∷ codes "object" ∷ decimal number ∷ (if nat_lt number (length schema.declared) then codes "declared" else codes "computed") ∷ names_in (object_names schema) set }

-- the lines of the maximal objects from this number on
abbrev pub maximal_lines_of : SchemaValue → ℕ → List (FinSet nat_cmp) → List Line
maximal_lines_of schema number [] = []
maximal_lines_of schema number (set ∷ sets) = maximal_line_of schema number set ∷ maximal_lines_of schema (number + 1) sets

-- the lines of a schema with these maximal objects
abbrev pub schema_lines : SchemaValue → List (FinSet nat_cmp) → List Line
schema_lines schema sets = map definition_line (definitions_of schema) ++ maximal_lines_of schema 0 sets
