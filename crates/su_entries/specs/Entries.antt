-- Rows as entries of trees.
-- entry: the values of a row, as the file has them
use Rattle.std.specs.Prelude.{List, map, All, IsUtf8, ⊤}
use Rattle.su_base.specs.declared.values.Value.{Value as AValue}
use Rattle.su_base.specs.declared.values.Value.TheVariants as row
use Rattle.sqlite_value.specs.declared.value.Value.{Value}
use Rattle.sqlite_value.specs.declared.value.Value.TheVariants.{Null, Int, Real, Text, Blob}
use Rattle.sqlite_value.specs.Order.{Row as Entry}

-- the value as it is, its bytes for a text
abbrev pub value_of : AValue → Value
value_of (row.Int n) = Int n
value_of (row.Text t) = Text t

-- value by value
abbrev pub entry_of : List AValue → Entry
entry_of = map value_of

-- a number, or a text of UTF-8
abbrev pub IsRowValue : Value → Type 0
IsRowValue Null = ⊥
IsRowValue (Int n) = ⊤
IsRowValue (Real x) = ⊥
IsRowValue (Text t) = IsUtf8 t
IsRowValue (Blob b) = ⊥

-- each value of the entry is one that a row may have
abbrev pub HoldsRow : Entry → Type 0
HoldsRow = All IsRowValue
