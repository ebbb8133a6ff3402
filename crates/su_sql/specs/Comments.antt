-- What is written as comments.
-- A line feed and a carriage return both end a line of a comment.
-- comment: lines that begin with `-- `, which an engine passes over
use Rattle.std.specs.Prelude.{ℕ, ◌==◌, ◌||◌, Bool, true, false, List, [], ◌∷◌, ◌++◌, codes}
use Rattle.su_schema.specs.SchemaValue.{SchemaValue}
use Rattle.su_sql.specs.declared.dialects.Dialect.{Dialect}
use Rattle.su_sql.specs.declared.dialects.Dialect.TheVariants.{Postgres, Sqlite, Spark}
use Rattle.su_sql.specs.Names.{relation_text}
use Rattle.su_sql.specs.Texts.{literal_text}

-- a line feed or a carriage return
abbrev pub ends_line : ℕ → Bool
ends_line b = (b == 10) || (b == 13)

-- what stands before a byte: the flag tells whether it begins a line
abbrev pub comment_sign : Bool → List ℕ
comment_sign true = codes "-- "
comment_sign false = []

-- each line of the text as a comment
abbrev pub comment_from : Bool → List ℕ → List ℕ
comment_from begins [] = []
comment_from begins (b ∷ bytes) = comment_sign begins ++ b ∷ comment_from (ends_line b) bytes

-- the text as comments
abbrev pub comment_text : List ℕ → List ℕ
comment_text bytes = comment_from true bytes

-- how the engine loads a file
abbrev pub load_command : Dialect → SchemaValue → ℕ → List ℕ → List ℕ
load_command Postgres schema r path = codes "\\copy " ++ relation_text Postgres schema r ++ codes " from " ++ literal_text Postgres path ++ codes " with (format csv, header)\n"
load_command Sqlite schema r path = codes ".import --csv --skip 1 " ++ literal_text Sqlite path ++ 32 ∷ relation_text Sqlite schema r ++ codes "\n"
load_command Spark schema r path =
    codes "create or replace temporary view loaded using csv options (header 'true', path " ++ literal_text Spark path ++ codes "); insert into " ++ relation_text Spark schema r ++ codes " select * from loaded;\n"

-- how the engine loads a file, as a comment
abbrev pub load_text : Dialect → SchemaValue → ℕ → List ℕ → List ℕ
load_text d schema r path = comment_text (load_command d schema r path)
