-- The text of selects, and of their union in order.
-- condition: a join, a fixed value or a comparison, as SQL has it
use Rattle.std.specs.Prelude.{ℕ, ◌+◌, List, [], ◌∷◌, ◌++◌, map, length, codes, decimal}
use Rattle.std.specs.List.{range_with_len}
use Rattle.su_schema.specs.SchemaValue.{SchemaValue}
use Rattle.su_sql.specs.declared.dialects.Dialect.{Dialect}
use Rattle.su_sql.specs.declared.tables.Table.{Table}
use Rattle.su_sql.specs.declared.tables.Select.{Select}
use Rattle.su_sql.specs.Names.{led, name_text}
use Rattle.su_sql.specs.Tables.{table_text}
use Rattle.su_sql.specs.Clauses.{conditions_of, output_text}

-- the outputs under their names
abbrev pub outputs_of : Dialect → SchemaValue → List (List ℕ) → Select → List (List ℕ)
outputs_of d schema header s = map (output_text d schema header s) (range_with_len 0 (length s.outputs))

-- the tables, numbered
abbrev pub tables_of : Dialect → SchemaValue → List Table → List (List ℕ)
tables_of d schema tables = map (table_text d schema tables) (range_with_len 0 (length tables))

-- the select: outputs behind the word, tables and conditions
abbrev pub select_text : Dialect → SchemaValue → List (List ℕ) → List ℕ → Select → List ℕ
select_text d schema header word s =
    led word (codes ", ") (outputs_of d schema header s) ++ led (codes "\nfrom ") (codes ", ") (tables_of d schema s.tables) ++ led (codes "\nwhere ") (codes " and ") (conditions_of d schema s)

-- ---- queries
-- by the outputs one after another, numbered from 1
abbrev pub place_number : ℕ → List ℕ
place_number i = decimal (i + 1)

-- by the first n outputs
abbrev pub order_text : ℕ → List ℕ
order_text n = led (codes "\norder by ") (codes ", ") (map place_number (range_with_len 0 n))

-- an output where there is no select
abbrev pub null_text : Dialect → List ℕ → List ℕ
null_text d name = codes "null as " ++ name_text d name

-- a select without rows
abbrev pub no_select_text : Dialect → List (List ℕ) → List ℕ
no_select_text d header = led (codes "select ") (codes ", ") (map (null_text d) header) ++ codes "\nwhere 1 = 0"

-- the union of the selects, which gives each row once, as a single select is told to; the names alone where there is none
abbrev pub union_text : Dialect → SchemaValue → List (List ℕ) → List Select → List ℕ
union_text d schema header [] = no_select_text d header
union_text d schema header (s ∷ []) = select_text d schema header (codes "select distinct ") s
union_text d schema header selects = led [] (codes "\nunion\n") (map (select_text d schema header (codes "select ")) selects)

-- the union of the selects, ordered by all outputs
abbrev pub selects_text : Dialect → SchemaValue → List (List ℕ) → List Select → List ℕ
selects_text d schema header selects = union_text d schema header selects ++ order_text (length header) ++ codes ";\n"
