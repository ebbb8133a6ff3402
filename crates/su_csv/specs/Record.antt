-- The row of a record, or its fault.
-- record: the fields of one line; number: which record it is, from 1 after the header; place: which column it is, from 0
use Rattle.std.specs.Prelude.{ℕ, suc, ◌&&◌, ◌==◌, nat_lt, if◌then◌else◌, List, [], ◌∷◌, ◌++◌, length, Option, Some, None, is_none, option_to_list, Result, Ok, Err}
use Rattle.su_base.specs.declared.values.Value.{Value}
use Rattle.su_base.specs.declared.values.Column.{Column}
use Rattle.su_base.specs.declared.values.Kind.{Kind}
use Rattle.su_base.specs.declared.values.Kind.TheVariants.{Int as IntKind, Text as TextKind}
use Rattle.su_csv.specs.declared.faults.CsvFault.{CsvFault}
use Rattle.su_csv.specs.declared.faults.CsvFault.TheVariants.{TooMany, Width, NotInt, NotText}
use Rattle.su_base.specs.Value.{same_kind}
use Rattle.su_csv.specs.Field.{field_value}

-- the most records after the header
abbrev pub record_limit : ℕ
record_limit = 1000000

-- the values of the fields, each in its column's kind
abbrev pub row_from_fields : List Column → List (List ℕ) → List Value
row_from_fields [] fields = []
row_from_fields (column ∷ columns) [] = []
row_from_fields (column ∷ columns) (field ∷ fields) = option_to_list (field_value column.kind field) ++ row_from_fields columns fields

-- the first place, from the left, of a column of this kind whose field has no value; the columns begin at `place`
abbrev pub place_without : Kind → ℕ → List Column → List (List ℕ) → Option ℕ
place_without kind place [] fields = None
place_without kind place (column ∷ columns) [] = None
place_without kind place (column ∷ columns) (field ∷ fields) =
    if same_kind kind column.kind && is_none (field_value kind field) then Some place else place_without kind (suc place) columns fields

-- the row where each field has a value; else a field of a number column comes before one of a text column
abbrev pub unless_without : ℕ → Option ℕ → Option ℕ → List Value → Result (List Value) CsvFault
unless_without number (Some place) text row = Err (NotInt number place)
unless_without number None (Some place) row = Err (NotText number place)
unless_without number None None row = Ok row

-- the row of the record of this number, or the first fault that it shows
abbrev pub row_or_fault : List Column → ℕ → List (List ℕ) → Result (List Value) CsvFault
row_or_fault columns number fields =
    if nat_lt record_limit number then Err TooMany
    else if length fields == length columns
    then unless_without number (place_without IntKind 0 columns fields) (place_without TextKind 0 columns fields) (row_from_fields columns fields)
    else Err (Width number)
