-- What takes part in the answers of the kept terms: how many candidates each kept row has, and how many of them are left.
-- candidate of a row: values that a stored row of one of its sources has and that some valuation gives the row's cells
-- left: given by a valuation that gives every row of the task one of that row's candidates; comparisons play no part
-- acyclic: the rows' cells have an ear order
use Rattle.std.specs.Prelude.{◌≡◌, ◌↔◌, ℕ, Bool, true, false, IsTrue, List, map, length, All, Contains, Option, None, Some}
use Rattle.std.specs.List.{AllZip}
use Rattle.su_base.specs.declared.values.Value.{Value}
use Rattle.su_base.specs.Lists.{AllDiffer}
use Rattle.su_rel.specs.Stored.{Stored}
use Rattle.su_tableau.specs.Valuations.{values_of}
use Rattle.su_map.specs.Lists.{row_numbers}
use Rattle.su_reduce.specs.Ears.{AreAcyclic}
use Rattle.su_reduce.specs.declared.support.Support.{Support}
use Rattle.su_exec.specs.declared.tasks.TaskRow.{TaskRow}
use Rattle.su_exec.specs.declared.tasks.Task.{Task}
use Rattle.su_exec.specs.Outputs.{Agrees}
use Rattle.su_state.specs.DatabaseValue.{DatabaseValue}
use Rattle.su_min.specs.Kept.{Minimised}
use Rattle.su_min.specs.Reduction.{term_at}
use Rattle.su_answer.specs.declared.preparing.Prepared.{Prepared}
use Rattle.su_answer.specs.Joined.{IsTaskOf}

-- the row has the values of a stored row under a valuation that gives its cells these values
pub record IsCandidate (tables : List Stored) (row : TaskRow) (values : List Value) : Type 0 where
  pub valuation : ℕ → Value
  pub agrees : Agrees tables valuation row
  pub gives : values_of valuation row.cells ≡ values

-- a valuation that gives every row of the task one of that row's candidates gives the row these values
pub record IsLeftOver (tables : List Stored) (task : Task) (row : TaskRow) (values : List Value) : Type 0 where
  pub valuation : ℕ → Value
  pub chooses : All (λ r. IsCandidate tables r (values_of valuation r.cells)) task.rows
  pub gives : values_of valuation row.cells ≡ values

-- n is the number of the lists with the property
pub record IsCountOf (P : List Value → Type 0) (n : ℕ) : Type 0 where
  pub lists : List (List Value)
  pub members : (h : List Value) → Contains lists h ↔ P h
  pub differ : AllDiffer lists
  pub count : n ≡ length lists

-- of an acyclic task it is told how many are left, of a cyclic one it is not
abbrev pub IsLeftCount : List Stored → Task → Bool → TaskRow → Option ℕ → Type 0
IsLeftCount tables task true row (Some n) = IsCountOf (IsLeftOver tables task row) n
IsLeftCount tables task true row None = ⊥
IsLeftCount tables task false row (Some n) = ⊥
IsLeftCount tables task false row None = Unit {0}

-- the candidates of the term's kept rows at their essential columns are counted, and what is left of them
pub record IsSupport (db : DatabaseValue) (m : Minimised) (s : Support) : Type 0 where
  pub task : Task
  pub is_task : IsTaskOf db.schema m.tableau m.mask task
  pub numbers : map (λ c. c.row) s.rows ≡ row_numbers m.tableau m.mask
  pub acyclic : IsTrue s.acyclic ↔ AreAcyclic (map (λ r. r.cells) task.rows)
  pub candidates : AllZip (λ r c. IsCountOf (IsCandidate db.tables r) c.candidates) task.rows s.rows
  pub left : AllZip (λ r c. IsLeftCount db.tables task s.acyclic r c.left) task.rows s.rows

-- one for each kept term, in order
abbrev pub AreSupports : DatabaseValue → Prepared → List Support → Type 0
AreSupports db p supports = AllZip (λ k s. (s.term ≡ k) × IsSupport db (term_at p.minimals k) s) p.reduced.kept supports
