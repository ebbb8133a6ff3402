-- The line that says why a file is not opened.
use Rattle.std.specs.Prelude.{ℕ, List, [], ◌∷◌, ◌++◌, codes, decimal}
use Rattle.su_base.specs.declared.values.Kind.{Kind}
use Rattle.su_base.specs.declared.values.Kind.TheVariants as kind
use Rattle.su_keep.specs.declared.faults.OpenFault.{OpenFault}
use Rattle.su_keep.specs.declared.faults.OpenFault.TheVariants.{NoMemory, InUse, Journal, Io, Full, NotADatabase, Version, Foreign, Missing, NoSchema, Schema, NoRow, TooMany, Refused}
use Rattle.su_keep.specs.declared.faults.RowFault.{RowFault}
use Rattle.su_keep.specs.declared.faults.RowFault.TheVariants.{Width, Kind as WrongKind, Breaks}

-- the names, with a space before each
abbrev pub names_text : List (List ℕ) → List ℕ
names_text [] = []
names_text (name ∷ names) = codes " " ++ name ++ names_text names

abbrev pub kind_name : Kind → List ℕ
kind_name kind.Int = codes "number"
kind_name kind.Text = codes "text"

-- what is wrong with a row
abbrev pub why_words : RowFault → List ℕ
why_words (Width given) = decimal given ++ codes " values"
why_words (WrongKind column wanted) = codes "no " ++ kind_name wanted ++ codes " in " ++ column
why_words (Breaks left right object other) =
    codes "with row " ++ decimal other ++ codes " breaks" ++ names_text left ++ codes " ->" ++ names_text right ++ codes " through " ++ object

-- the relation and the row's number, and what is wrong with the row
abbrev pub row_words : List ℕ → ℕ → List ℕ → List ℕ
row_words relation number why = codes "relation " ++ relation ++ codes ", row " ++ decimal number ++ codes ": " ++ why

-- why, without the file's name
abbrev pub words_of : OpenFault → List ℕ
words_of NoMemory = codes "out of memory"
words_of InUse = codes "in use by another process"
words_of Journal = codes "has a journal: open it with sqlite3 first"
words_of Io = codes "can't be read or made"
words_of Full = codes "has no room"
words_of NotADatabase = codes "not such a database, or damaged"
words_of (Version version) = codes "user version " ++ decimal version ++ codes ", not 1"
words_of (Foreign name) = name ++ codes " is not of the schema"
words_of (Missing name) = codes "no table for the relation " ++ name
words_of NoSchema = codes "no text of a schema"
words_of (Schema fault) = codes "the text of the schema is refused"
words_of (NoRow relation number) = row_words relation number (codes "neither numbers nor texts of UTF-8")
words_of (TooMany relation) = codes "relation " ++ relation ++ codes ": more than 1000000 rows"
words_of (Refused relation number why) = row_words relation number (why_words why)
