-- Names as SQL, in the quotes of each engine.
-- quote: the byte before and behind a name
use Rattle.std.specs.Prelude.{ℕ, List, [], ◌∷◌, ◌++◌, codes}
use Rattle.std.specs.List.{join_by}
use Rattle.su_schema.specs.SchemaValue.{SchemaValue}
use Rattle.su_schema.specs.Entries.{relation_names}
use Rattle.su_ddl.specs.ShownDefinitions.{name_at}
use Rattle.su_show.specs.RowCauses.{column_name}
use Rattle.su_sql.specs.declared.dialects.Dialect.{Dialect}
use Rattle.su_sql.specs.declared.dialects.Dialect.TheVariants.{Postgres, Sqlite, Spark}

-- the parts, the first behind one text and each other one behind the other
abbrev pub led : List ℕ → List ℕ → List (List ℕ) → List ℕ
led first next [] = []
led first next (part ∷ parts) = first ++ join_by (λ x. x) next (part ∷ parts)

-- the sign around names
abbrev pub quote_of : Dialect → List ℕ
quote_of Postgres = codes "\""
quote_of Sqlite = codes "\""
quote_of Spark = codes "`"

-- a name in quotes, which no name has
abbrev pub name_text : Dialect → List ℕ → List ℕ
name_text d name = quote_of d ++ name ++ quote_of d

-- the name of relation r
abbrev pub relation_name : SchemaValue → ℕ → List ℕ
relation_name schema r = name_at (relation_names schema) r

-- relation r in quotes
abbrev pub relation_text : Dialect → SchemaValue → ℕ → List ℕ
relation_text d schema r = name_text d (relation_name schema r)

-- column c of relation r in quotes
abbrev pub column_text : Dialect → SchemaValue → ℕ → ℕ → List ℕ
column_text d schema r c = name_text d (column_name schema r c)
