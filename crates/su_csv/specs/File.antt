-- What reading a CSV file answers.
-- file: any bytes; records: as `csv` reads them at its default settings, the header being the first
use Rattle.std.specs.Prelude.{ℕ, suc, Bool, if◌then◌else◌, ◌==◌, List, [], ◌∷◌, map, Result, Ok, Err}
use Rattle.std.specs.Cmp.Lexicographic.{pointwise}
use Rattle.csv.specs.Reading.{default_config, records, strip_bom}
use Rattle.su_base.specs.declared.values.Value.{Value}
use Rattle.su_base.specs.declared.values.Column.{Column}
use Rattle.su_csv.specs.declared.faults.CsvFault.{CsvFault}
use Rattle.su_csv.specs.declared.faults.CsvFault.TheVariants.{Header}
use Rattle.su_csv.specs.Record.{row_or_fault}

-- the records of a file: a byte order mark is taken off, a second one as the reader of `csv` does, and what is left is read
abbrev pub records_of : List ℕ → List (List (List ℕ))
records_of file = records default_config (strip_bom (strip_bom file))

-- a row in front of the others, unless there is a fault
abbrev pub row_first : List Value → Result (List (List Value)) CsvFault → Result (List (List Value)) CsvFault
row_first row (Ok rows) = Ok (row ∷ rows)
row_first row (Err fault) = Err fault

-- a row before others, or its fault
abbrev pub then_rows : Result (List Value) CsvFault → Result (List (List Value)) CsvFault → Result (List (List Value)) CsvFault
then_rows (Ok row) others = row_first row others
then_rows (Err fault) others = Err fault

-- the rows of the records, which are numbered from `number`, or the fault of the first record that shows one
abbrev pub rows_from : List Column → ℕ → List (List (List ℕ)) → Result (List (List Value)) CsvFault
rows_from columns number [] = Ok []
rows_from columns number (fields ∷ others) = then_rows (row_or_fault columns number fields) (rows_from columns (suc number) others)

-- whether a record is the column names in order
abbrev pub is_header : List Column → List (List ℕ) → Bool
is_header columns fields = pointwise (pointwise ◌==◌) fields (map (λ column. column.name) columns)

-- the rows under the header, or the first fault of the records
abbrev pub under_header : List Column → List (List (List ℕ)) → Result (List (List Value)) CsvFault
under_header columns [] = Err Header
under_header columns (header ∷ others) = if is_header columns header then rows_from columns 1 others else Err Header

-- what reading a file answers, where memory is not wanting
abbrev pub reading : List Column → List ℕ → Result (List (List Value)) CsvFault
reading columns file = under_header columns (records_of file)
