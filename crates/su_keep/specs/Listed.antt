-- How the tables of a database are listed in its file: their names, and the statements that make them.
-- earlier: the names before this one; place: of a relation in its schema or a column in its relation, from 0
use Rattle.std.specs.Prelude.{ℕ, zero, suc, ◌+◌, ◌==◌, ◌||◌, pos, Bool, if◌then◌else◌, List, [], ◌∷◌, ◌++◌, length, take, codes, decimal, slice_index_or}
use Rattle.std.specs.List.{list_any}
use Rattle.su_base.specs.declared.values.Kind.{Kind}
use Rattle.su_base.specs.declared.values.Kind.TheVariants as kind
use Rattle.su_base.specs.declared.values.Column.{Column}
use Rattle.sqlite_value.specs.declared.value.Value.TheVariants.{Int, Text}
use Rattle.sqlite_value.specs.Order.{Row as Entry}
use Rattle.sqlite_trees.specs.Sound.{same_name}
use Rattle.su_schema.specs.SchemaValue.{SchemaValue}
use Rattle.su_schema.specs.Entries.{relation_names, column_names}
use Rattle.su_schema.specs.Known.{columns_at}

-- SQLite keeps names that begin with `sqlite_` for itself
abbrev pub is_reserved : List ℕ → Bool
is_reserved name = same_name (take 7 name) (codes "sqlite_")

-- a name stays, but where SQLite takes it for an earlier one, or keeps it for itself: then its place from 1 and a dot stand before it
abbrev pub name_in_file : List (List ℕ) → ℕ → List ℕ → List ℕ
name_in_file earlier place name = (if is_reserved name || list_any (same_name name) earlier then decimal (place + 1) ++ codes "." else []) ++ name

-- the name at a place of these
abbrev pub name_at : List (List ℕ) → ℕ → List ℕ
name_at names place = name_in_file (take place names) place (slice_index_or names place [])

abbrev pub quoted : List ℕ → List ℕ
quoted name = codes "\"" ++ name ++ codes "\""

abbrev pub column_quoted : List Column → ℕ → List ℕ
column_quoted columns place = quoted (name_at (column_names columns) place)

abbrev pub kind_words : Kind → List ℕ
kind_words kind.Int = codes " INTEGER NOT NULL, "
kind_words kind.Text = codes " TEXT NOT NULL, "

abbrev pub no_column : Column
no_column = record { name = []; kind = kind.Int }

-- the first so many columns with their kinds, each with a comma behind it
unfoldable pub columns_text : List Column → ℕ → List ℕ
columns_text columns zero = []
columns_text columns (suc n) = columns_text columns n ++ column_quoted columns n ++ kind_words (slice_index_or columns n no_column).kind

-- the names of the first so many columns, with commas between them
unfoldable pub key_text : List Column → ℕ → List ℕ
key_text columns zero = []
key_text columns (suc n) = key_text columns n ++ (if n == 0 then [] else codes ", ") ++ column_quoted columns n

-- the statement that makes a table of this name: a primary key over all columns
abbrev pub statement : List ℕ → List Column → List ℕ
statement name columns =
    codes "CREATE TABLE " ++ quoted name ++ codes " (" ++ columns_text columns (length columns) ++ codes "PRIMARY KEY (" ++ key_text columns (length columns) ++ codes ")) STRICT, WITHOUT ROWID"

-- the row of sqlite_schema without its root page: its number, and a table's name and statement
abbrev pub table_row : ℕ → List ℕ → List ℕ → Entry
table_row number name text = Int (pos number) ∷ Text (codes "table") ∷ Text name ∷ Text name ∷ Text text ∷ []

-- the first table has the schema's text
abbrev pub text_row : Entry
text_row =
    table_row 1 (codes "sysu.schema") (codes "CREATE TABLE \"sysu.schema\" (\"text\" TEXT NOT NULL, PRIMARY KEY (\"text\")) STRICT, WITHOUT ROWID")

-- the table of a relation
abbrev pub relation_row : SchemaValue → ℕ → Entry
relation_row schema r = table_row (r + 2) (name_at (relation_names schema) r) (statement (name_at (relation_names schema) r) (columns_at schema r))

-- the table of the text, and those of the first so many relations
unfoldable pub rows_to : SchemaValue → ℕ → List Entry
rows_to schema zero = text_row ∷ []
rows_to schema (suc n) = rows_to schema n ++ relation_row schema n ∷ []

-- the table of the text, and one for each relation
abbrev pub catalog_of : SchemaValue → List Entry
catalog_of schema = rows_to schema (length schema.relations)
