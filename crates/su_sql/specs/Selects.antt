-- Selects, and what they mean over lists of stored rows.
-- table: where the rows of one row of a tableau are stored; a row of it has the values that a stored row of one of its sources has in that source's columns
-- choice: one row of each table; place: a value of a choice, by the number of the table and the number of the value in its row
-- select: tables, conditions on a choice (joins, fixed values, comparisons), and outputs; it gives the outputs of all choices that meet the conditions
use Rattle.std.specs.Prelude.{◌≡◌, List, All, Contains, map}
use Rattle.std.specs.List.{AllZip}
use Rattle.su_base.specs.declared.values.Value.{Value}
use Rattle.su_rel.specs.Stored.{Stored}
use Rattle.su_rel.specs.ExactRows.{AreExactlyRows}
use Rattle.su_sql.specs.declared.tables.Select.{Select}
use Rattle.su_sql.specs.Choices.{IsRowOf, operand_value, Joins, Fixes, Compares}

-- h is what some choice that meets the conditions gives
pub record IsSelected (stored : List Stored) (s : Select) (h : List Value) : Type 0 where
  pub choice : List (List Value)
  pub chosen : AllZip (IsRowOf stored) s.tables choice
  pub joined : All (Joins choice) s.joins
  pub fixed : All (Fixes choice) s.fixed
  pub compared : All (Compares choice) s.comparisons
  pub gives : map (operand_value choice) s.outputs ≡ h

-- h is given by one of the selects
pub record IsInUnion (stored : List Stored) (selects : List Select) (h : List Value) : Type 0 where
  pub select : Select
  pub is_one : Contains selects select
  pub selected : IsSelected stored select h

-- exactly what the selects give, ascending, each once
abbrev pub AreRowsOf : List Stored → List Select → List (List Value) → Type 0
AreRowsOf stored selects rows = AreExactlyRows (IsInUnion stored selects) rows
