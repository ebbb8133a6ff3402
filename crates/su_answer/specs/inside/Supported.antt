-- The edges of a term's kept rows, and what is counted of them.
-- edge: the cells of a kept row and its candidates; k: an edge, by its place among the kept rows, from 0; numbers: the kept rows, by their numbers
-- m: a term's tableau with its kept rows; left: for each edge those of its candidates that a valuation of all edges takes
-- No public contract cites this module.
use Rattle.std.specs.Prelude.{ℕ, ◌≤◌, List, [], All, length, get_or, Option, None, Some}
use Rattle.std.specs.List.{AllZip}
use Rattle.su_base.specs.declared.values.Value.{Value}
use Rattle.su_reduce.specs.declared.edges.Edge.{Edge}
use Rattle.su_reduce.specs.declared.support.Counted.{Counted}
use Rattle.su_reduce.specs.Left.{candidates_at}
use Rattle.su_exec.specs.declared.tasks.Task.{Task}
use Rattle.su_exec.specs.Tasks.{IsTask}
use Rattle.su_state.specs.DatabaseValue.{DatabaseValue}
use Rattle.su_min.specs.Kept.{Minimised}
use Rattle.su_answer.specs.Joined.{IsTaskOf}
use Rattle.su_answer.specs.inside.Alone.{AreCountable, IsEdgeOf}

-- the task joins the kept rows, over the tables of the database
pub record IsKeptTask (db : DatabaseValue) (m : Minimised) (task : Task) : Type 0 where
  pub is_task : IsTaskOf db.schema m.tableau m.mask task
  pub fits : IsTask db.tables task
  pub countable : All (AreCountable db.tables) task.rows

-- the edges are those of the kept rows, at most 64
pub record AreEdgesOf (db : DatabaseValue) (m : Minimised) (edges : List Edge) : Type 0 where
  pub task : Task
  pub is_task : IsTaskOf db.schema m.tableau m.mask task
  pub each : AllZip (IsEdgeOf db.tables) task.rows edges
  pub few : length edges ≤ 64

-- how many rows edge k has left, if that is known
abbrev pub count_left : Option (List (List (List Value))) → ℕ → Option ℕ
count_left None k = None
count_left (Some left) k = Some (length (get_or left k []))

-- the number of edge k's row, how many candidates it has, and how many of them are left
abbrev pub counted_at : List ℕ → List Edge → Option (List (List (List Value))) → ℕ → Counted
counted_at numbers edges left k = record { row = get_or numbers k 0; candidates = length (candidates_at edges k); left = count_left left k }
