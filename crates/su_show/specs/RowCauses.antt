-- Why rows are refused, in words. The numbers of relations and columns are those of the schema.
-- cause: what stands behind `refused: `; record: a line of a file, from 1
use Rattle.std.specs.Prelude.{ℕ, List, [], ◌++◌, length, codes, decimal, Option, Some, None, slice_index_or}
use Rattle.su_schema.specs.SchemaValue.{SchemaValue}
use Rattle.su_schema.specs.Entries.{column_names}
use Rattle.su_schema.specs.Known.{columns_at}
use Rattle.su_csv.specs.declared.faults.CsvFault.{CsvFault}
use Rattle.su_csv.specs.declared.faults.CsvFault.TheVariants as csv
use Rattle.su_state.specs.declared.faults.StateFault.{StateFault}
use Rattle.su_state.specs.declared.faults.StateFault.TheVariants as state
use Rattle.su_state.specs.Breaches.{fd_at}
use Rattle.su_show.specs.Values.{fd_text, row_text}

-- the name of a column of a relation
abbrev pub column_name : SchemaValue → ℕ → ℕ → List ℕ
column_name schema relation column = slice_index_or (column_names (columns_at schema relation)) column []

-- why a change of one row is refused; want of memory has no text
abbrev pub state_text : SchemaValue → StateFault → Option (List ℕ)
state_text schema (state.UnknownRelation name) = Some (codes "unknown relation " ++ name)
state_text schema (state.Width relation given) = Some (codes "width " ++ decimal given ++ codes ", relation has " ++ decimal (length (columns_at schema relation)))
state_text schema (state.Kind relation column) = Some (codes "kind of column " ++ column_name schema relation column)
state_text schema (state.Breaks relation fd object row) = Some (codes "breaks " ++ fd_text schema (fd_at schema fd) ++ codes " with row " ++ row_text row)
state_text schema (state.Limit relation) = Some (codes "limit relation 1000000")
state_text schema state.NoMemory = None

-- what is said of the record of this number
abbrev pub record_text : ℕ → List ℕ → List ℕ
record_text number said = codes "record " ++ decimal number ++ codes ": " ++ said

-- why a file of rows is refused; want of memory has no text
abbrev pub csv_text : SchemaValue → ℕ → CsvFault → Option (List ℕ)
csv_text schema relation csv.Header = Some (codes "header")
csv_text schema relation csv.TooMany = Some (codes "limit records 1000000")
csv_text schema relation (csv.Width number) = Some (record_text number (codes "width"))
csv_text schema relation (csv.NotInt number column) = Some (record_text number (codes "column " ++ column_name schema relation column ++ codes " is no number"))
csv_text schema relation (csv.NotText number column) = Some (record_text number (codes "column " ++ column_name schema relation column ++ codes " is no text"))
csv_text schema relation csv.NoMemory = None
