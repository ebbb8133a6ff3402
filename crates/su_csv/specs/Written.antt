-- The CSV text of rows.
-- text: as `csv` writes it at its default settings
use Rattle.std.specs.Prelude.{◌≡◌, ◌<◌, ◌≤◌, ℕ, List, ◌∷◌, length, map, flat_map, All, get_or, []}
use Rattle.std.specs.Fmt.{signed_decimal}
use Rattle.csv.specs.Reading.{strip_bom}
use Rattle.csv.specs.Writing.{default_writer, row_text}
use Rattle.su_base.specs.declared.values.Value.{Value}
use Rattle.su_base.specs.declared.values.Value.TheVariants.{Int, Text}
use Rattle.su_base.specs.declared.values.Column.{Column}
use Rattle.su_base.specs.Value.{kind_of}
use Rattle.su_csv.specs.Field.{text_limit}
use Rattle.su_csv.specs.Record.{record_limit}

-- the field of a value: the number in decimal, the text as it is
abbrev pub field_of : Value → List ℕ
field_of (Int n) = signed_decimal n
field_of (Text t) = t

-- the text of a header and rows
abbrev pub text_of : List (List ℕ) → List (List Value) → List ℕ
text_of header rows = flat_map (row_text default_writer) (header ∷ map (map field_of) rows)

-- a number, or a text that is not too long
abbrev pub IsShort : Value → Type 0
IsShort (Int n) = Unit {0}
IsShort (Text t) = length t ≤ text_limit

-- rows of these columns, few and short enough to be read, under names that no byte order mark begins
pub record CanBeRead (columns : List Column) (rows : List (List Value)) : Type 0 where
  pub some : 0 < length columns
  pub unmarked : strip_bom (get_or (map (λ column. column.name) columns) 0 []) ≡ get_or (map (λ column. column.name) columns) 0 []
  pub few : length rows ≤ record_limit
  pub kinds : All (λ row. map kind_of row ≡ map (λ column. column.kind) columns) rows
  pub short : All (All IsShort) rows
