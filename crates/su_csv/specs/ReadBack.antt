-- Text that reads back.
-- text: as `csv` writes it under a header
use Rattle.std.specs.Prelude.{◌≡◌, ℕ, List, map, Ok}
use Rattle.su_base.specs.declared.values.Value.{Value}
use Rattle.su_base.specs.declared.values.Column.{Column}
use Rattle.su_csv.specs.File.{reading}
use Rattle.su_csv.specs.Written.{CanBeRead}

-- for columns of these names under which the rows can be read, the text is read as these rows
abbrev pub ReadsBack : List (List ℕ) → List (List Value) → List ℕ → Type 0
ReadsBack header rows text = (columns : List Column) → map (λ column. column.name) columns ≡ header → CanBeRead columns rows → reading columns text ≡ Ok rows
