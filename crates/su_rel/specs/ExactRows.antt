-- Exactly the rows that have a property.
-- row: one value per column; rows ascend by their values from left to right
use Rattle.std.specs.Prelude.{◌↔◌, List, Contains}
use Rattle.std.specs.List.Sorted.{IsStrictlySortedBy}
use Rattle.su_base.specs.declared.values.Value.{Value}
use Rattle.su_base.specs.Value.{compare_lists}

-- exactly the rows that have the property, ascending, each once
pub record AreExactlyRows (P : List Value → Type 0) (rows : List (List Value)) : Type 0 where
  pub exact : (h : List Value) → Contains rows h ↔ P h
  pub ascending : IsStrictlySortedBy compare_lists rows
