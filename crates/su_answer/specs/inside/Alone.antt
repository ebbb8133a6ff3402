-- A row's task by itself, and its candidates.
-- task: rows to be joined, and the symbols whose values are asked for; tables: the stored relations, by number
-- candidate: the values that a stored row of one of the row's sources gives its cells; edge: cells and their candidates; h: one value per cell
-- No public contract cites this module.
use Rattle.std.specs.Prelude.{◌≡◌, ◌↔◌, List, [], ◌∷◌, Contains}
use Rattle.su_base.specs.declared.values.Value.{Value}
use Rattle.su_base.specs.Lists.{AllDiffer}
use Rattle.su_rel.specs.Stored.{Stored}
use Rattle.su_rel.specs.MoreThan.{AreMoreThan}
use Rattle.su_reduce.specs.declared.edges.Edge.{Edge}
use Rattle.su_exec.specs.declared.tasks.TaskRow.{TaskRow}
use Rattle.su_exec.specs.declared.tasks.Task.{Task}
use Rattle.su_exec.specs.Outputs.{IsOutput}
use Rattle.su_answer.specs.Support.{IsCandidate}

-- the row alone, whose cells are asked for
abbrev pub alone : TaskRow → Task
alone row = record { rows = row ∷ []; outputs = row.cells; comparisons = [] }

-- the edge has the row's cells, and exactly its candidates, each once
pub record IsEdgeOf (tables : List Stored) (row : TaskRow) (edge : Edge) : Type 0 where
  pub cells : edge.cells ≡ row.cells
  pub exact : (h : List Value) → Contains edge.candidates h ↔ IsCandidate tables row h
  pub once : AllDiffer edge.candidates

-- the row's candidates can be told in 64 bits
abbrev pub AreCountable : List Stored → TaskRow → Type 0
AreCountable tables row = ¬ AreMoreThan 18446744073709551615 (IsOutput tables (alone row))
