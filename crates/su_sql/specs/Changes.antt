-- Definitions and changes as SQL.
-- A relation is a set: an insert of a row that is there does nothing, and no more is asked of an engine than `where not exists`.
use Rattle.std.specs.Prelude.{ℕ, List, ◌∷◌, ◌++◌, map, get_or, length, codes, pos}
use Rattle.std.specs.List.{range_with_len}
use Rattle.su_base.specs.declared.values.Column.{Column}
use Rattle.su_base.specs.declared.values.Value.{Value}
use Rattle.su_base.specs.declared.values.Value.TheVariants.{Int}
use Rattle.su_schema.specs.SchemaValue.{SchemaValue}
use Rattle.su_schema.specs.Known.{columns_at}
use Rattle.su_sql.specs.declared.dialects.Dialect.{Dialect}
use Rattle.su_sql.specs.Names.{led, name_text, relation_text, column_text}
use Rattle.su_sql.specs.Texts.{value_text, kind_text}
use Rattle.su_sql.specs.Queries.{order_text}

-- ---- definitions
-- a column with its kind
abbrev pub column_line : Dialect → Column → List ℕ
column_line d column = name_text d column.name ++ 32 ∷ kind_text d column.kind

-- the table of a relation
abbrev pub create_text : Dialect → SchemaValue → ℕ → List ℕ
create_text d schema r = codes "create table " ++ relation_text d schema r ++ led (codes " (") (codes ", ") (map (column_line d) (columns_at schema r)) ++ codes ");\n"

-- ---- single rows
-- the column has the row's value
abbrev pub equality_text : Dialect → SchemaValue → ℕ → List Value → ℕ → List ℕ
equality_text d schema r row c = column_text d schema r c ++ codes " = " ++ value_text d (get_or row c (Int (pos 0)))

-- the row is this one
abbrev pub is_row_text : Dialect → SchemaValue → ℕ → List Value → List ℕ
is_row_text d schema r row = led (codes " where ") (codes " and ") (map (equality_text d schema r row) (range_with_len 0 (length row)))

-- the row goes in, where it isn't there
abbrev pub insert_text : Dialect → SchemaValue → ℕ → List Value → List ℕ
insert_text d schema r row =
    codes "insert into " ++ relation_text d schema r ++ led (codes " select ") (codes ", ") (map (value_text d) row) ++ codes " where not exists (select 1 from " ++ relation_text d schema r ++ is_row_text d schema r row ++ codes ");\n"

-- the row goes out
abbrev pub delete_text : Dialect → SchemaValue → ℕ → List Value → List ℕ
delete_text d schema r row = codes "delete from " ++ relation_text d schema r ++ is_row_text d schema r row ++ codes ";\n"

-- ---- rows that are shown
-- all rows of the relation, ascending, each once
abbrev pub print_text : Dialect → SchemaValue → ℕ → List ℕ
print_text d schema r =
    led (codes "select distinct ") (codes ", ") (map (column_text d schema r) (range_with_len 0 (length (columns_at schema r)))) ++ codes "\nfrom " ++ relation_text d schema r ++ order_text (length (columns_at schema r)) ++ codes ";\n"
