-- Candidates as values: what their codes stand for.
-- code: a value's place in `values`, from 0; edge: variables, and the rows that they may have together; e, g: edges; es: the candidates so far
-- cells: the symbols of a row; firsts: for each variable the cell where it stands first; columns: of a source, one for each cell
-- v: a valuation; h: a value for each variable of a row
-- No public contract cites this module.
use Rattle.std.specs.Prelude.{◌≡◌, ◌⊎◌, ◌↔◌, ℕ, pos, true, Option, MatchOption, List, Vec, map, length, slice_index_or, All, Contains}
use Rattle.std.specs.declared.alloc.Global.{Global}
use Rattle.su_base.specs.declared.values.Value.{Value}
use Rattle.su_base.specs.declared.values.Value.TheVariants.{Int}
use Rattle.su_rel.specs.Stored.{Stored}
use Rattle.su_tableau.specs.declared.symbols.Sym.{Sym}
use Rattle.su_tableau.specs.declared.symbols.Sym.TheVariants.{Var}
use Rattle.su_tableau.specs.Valuations.{values_of}
use Rattle.su_exec.specs.declared.tasks.TaskRow.{TaskRow}
use Rattle.su_exec.specs.declared.tasks.Task.{Task}
use Rattle.su_reduce.specs.Codes.{decode, Extends}
use Rattle.su_exec.specs.inside.Edges.{Edge, Fits, FitsAll, among, has}
use Rattle.su_reduce.specs.Sheets.{AreBelow}
use Rattle.su_exec.specs.Outputs.{Agrees, values_at}
use Rattle.su_exec.specs.Tasks.{StandsIn}

-- the edge of the values that the codes stand for
abbrev pub meaning : List Value → Edge ℕ → Edge Value
meaning values e = record { vars = e.vars; rows = map (map (decode values)) e.rows }

-- the edges with values in place of codes
abbrev pub meanings : List Value → List (Edge ℕ) → List (Edge Value)
meanings values es = map (meaning values) es

-- each code of the rows stands for a value
abbrev pub AreCoded : List Value → List (List ℕ) → Type 0
AreCoded values rows = All (λ r. AreBelow r (length values)) rows

-- each code of the edge stands for a value
abbrev pub IsCoded : List Value → Edge ℕ → Type 0
IsCoded values e = AreCoded values e.rows

-- ---- the cells of a row

-- the values of a row at these places
abbrev pub picked : List ℕ → List Value → List Value
picked places values = map (λ p. slice_index_or values p (Int (pos 0))) places

-- the values of the variables that a stored row gives which fits the cells
pub record IsTaken (cells : List Sym) (firsts columns : List ℕ) (stored h : List Value) : Type 0 where
  pub valuation : ℕ → Value
  pub fits : values_at columns stored ≡ values_of valuation cells
  pub is : picked firsts (values_at columns stored) ≡ h

-- ---- rows that are gathered

-- rows of codes that were added: only such as P says, and all that Q says
pub record IsGathered (P Q : List Value → Type 0) (old : List Value) (rows : List (List ℕ)) (new : List Value) (more : List (List ℕ)) : Type 0 where
  pub codes : Extends old new
  pub coded : AreCoded new more
  pub kept : (r : List ℕ) → Contains rows r → Contains more r
  pub only : (r : List ℕ) → Contains more r → Contains rows r ⊎ P (map (decode new) r)
  pub had : (h : List Value) → Q h → Contains (map (map (decode new)) more) h

-- ---- rows of a task

-- beside the candidates so far the edge says that the row agrees with a stored row
pub record IsRowEdge (tables : List Stored) (values : List Value) (es : List (Edge ℕ)) (row : TaskRow) (g : Edge ℕ) : Type 0 where
  pub exact : (v : ℕ → Value) → FitsAll v (meanings values es) → Agrees tables v row ↔ Fits v (meaning values g)
  pub coded : IsCoded values g
  pub all : (k : ℕ) → Contains row.cells (Var k) → has g.vars k ≡ true

-- the edges say that each row agrees with a stored row
pub record AreRowEdges (tables : List Stored) (values : List Value) (task : Task) (es : List (Edge ℕ)) : Type 0 where
  pub exact : (v : ℕ → Value) → All (Agrees tables v) task.rows ↔ FitsAll v (meanings values es)
  pub coded : All (IsCoded values) es
  pub all : (k i : ℕ) → StandsIn task k i → among es k ≡ true

-- no valuation gives each row a stored row
abbrev pub NoneAgrees : List Stored → Task → Type 0
NoneAgrees tables task = (v : ℕ → Value) → ¬ All (Agrees tables v) task.rows

-- the candidates of all rows, or that there are none
abbrev pub AreFetched : List Stored → List Value → Task → Option (Vec (Edge ℕ) Global) → Type 0
AreFetched tables values task found = MatchOption found (NoneAgrees tables task) (λ edges. AreRowEdges tables values task edges.items)
