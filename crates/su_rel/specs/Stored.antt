-- What a relation stores, and what a table stores.
-- stored: a width, and rows by position; relation: rows of that width, all different
use Rattle.std.specs.Prelude.{◌≡◌, ℕ, List, length, All}
use Rattle.su_base.specs.Lists.{AllDiffer}
use Rattle.su_base.specs.declared.values.Value.{Value}

-- a width, and rows by position
pub record Stored : Type 0 where
  pub width : ℕ
  pub rows : List (List Value)

-- each row has the width
abbrev pub HaveWidth : ℕ → List (List Value) → Type 0
HaveWidth width rows = All (λ row. length row ≡ width) rows

-- a set of rows of one width
pub record IsRelation (stored : Stored) : Type 0 where
  pub width : HaveWidth stored.width stored.rows
  pub differ : AllDiffer stored.rows
