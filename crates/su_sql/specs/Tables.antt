-- The text of a table of a select.
-- table number i is r0, r1, ..; where it has several sources, its values are c0, c1, ..
-- source: a stored relation, with a column of it for each value of the table; table: the rows of its sources together
use Rattle.std.specs.Prelude.{ℕ, ◌+◌, List, [], ◌∷◌, ◌++◌, map, get_or, length, codes, decimal}
use Rattle.std.specs.List.{range_with_len}
use Rattle.su_exec.specs.declared.tasks.Source.{Source}
use Rattle.su_schema.specs.SchemaValue.{SchemaValue}
use Rattle.su_sql.specs.declared.dialects.Dialect.{Dialect}
use Rattle.su_sql.specs.declared.tables.Table.{Table}
use Rattle.su_sql.specs.Names.{led, relation_text, column_text}

-- a column of a source, which is the value number i of the table's rows
abbrev pub source_column : Dialect → SchemaValue → Source → ℕ → List ℕ
source_column d schema s i = column_text d schema s.relation (get_or s.columns i 0) ++ codes " as c" ++ decimal i

-- a source without columns tells whether there is a row
abbrev pub one_at_least : List (List ℕ) → List (List ℕ)
one_at_least [] = codes "1" ∷ []
one_at_least parts = parts

-- the columns of a source, numbered
abbrev pub source_columns : Dialect → SchemaValue → Source → List (List ℕ)
source_columns d schema s = map (source_column d schema s) (range_with_len 0 (length s.columns))

-- the select of one source
abbrev pub source_text : Dialect → SchemaValue → Source → List ℕ
source_text d schema s = led (codes "select ") (codes ", ") (one_at_least (source_columns d schema s)) ++ codes " from " ++ relation_text d schema s.relation

-- the union of the columns of several sources
abbrev pub united_text : Dialect → SchemaValue → List Source → List ℕ
united_text d schema sources = codes "(" ++ led [] (codes " union ") (map (source_text d schema) sources) ++ codes ")"

-- the relation of the one source, or the union of several
abbrev pub sources_text : Dialect → SchemaValue → List Source → List ℕ
sources_text d schema (s ∷ []) = relation_text d schema s.relation
sources_text d schema sources = united_text d schema sources

-- stands where there is no such table
abbrev pub no_table : Table
no_table = record { sources = [] }

-- a table under its number
abbrev pub table_text : Dialect → SchemaValue → List Table → ℕ → List ℕ
table_text d schema tables i = sources_text d schema (get_or tables i no_table).sources ++ codes " r" ++ decimal i
