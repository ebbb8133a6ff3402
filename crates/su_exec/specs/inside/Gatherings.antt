-- What is gathered from the stored rows of an aim's source.
-- aim: a row that candidates are fetched for, its shape, and one of its sources
-- No public contract cites this module.
use Rattle.std.specs.Prelude.{◌≡◌, ℕ, Some, List, length, slice_get}
use Rattle.su_base.specs.declared.values.Value.{Value}
use Rattle.su_rel.specs.Stored.{Stored}
use Rattle.su_index.specs.Tables.{table_at}
use Rattle.su_exec.specs.declared.fetching.Aim.{Aim}
use Rattle.su_exec.specs.declared.gathered.Gathered.{Gathered}
use Rattle.su_exec.specs.inside.Coded.{IsGathered, IsTaken}
use Rattle.su_exec.specs.inside.Edges.{Edge}
use Rattle.su_exec.specs.inside.Ways.{IsAgreed, IsFrom, IsFromListed}

-- the stored row gives the aim's variables the values
abbrev pub IsTakenFor : Aim → List Value → List Value → Type 0
IsTakenFor aim stored = IsTaken aim.row.now.cells aim.shape.now.firsts.items aim.source.now.columns stored

-- a stored row of the source gives them
abbrev pub IsFromSource : List Stored → Aim → List Value → Type 0
IsFromSource tables aim = let stored = (table_at tables aim.source.now.relation).rows in IsFrom aim.row.now.cells aim.shape.now.firsts.items aim.source.now.columns stored (length stored)

-- a stored row of the source at one of the positions gives them
abbrev pub IsFromPositions : List Stored → Aim → List ℕ → List Value → Type 0
IsFromPositions tables aim positions = IsFromListed aim.row.now.cells aim.shape.now.firsts.items aim.source.now.columns (table_at tables aim.source.now.relation).rows positions (length positions)

-- a stored row of the source that agrees beside the candidates so far gives them
abbrev pub IsAgreedFor : List Stored → List Value → List (Edge ℕ) → Aim → List Value → Type 0
IsAgreedFor tables values es aim = IsAgreed tables values es aim.row.now.cells aim.shape.now.firsts.items aim.source.now

-- rows of codes were added: all such, and no others
abbrev pub Gathers : (List Value → Type 0) → List Value → Gathered → List Value → Gathered → Type 0
Gathers IsSuch values old news new = IsGathered IsSuch IsSuch values old.rows.rows news new.rows.rows

-- what the stored row at the position gives was added
abbrev pub GathersRow : List Stored → Aim → ℕ → List Value → Gathered → List Value → Gathered → Type 0
GathersRow tables aim position values old news new = (stored : List Value) → slice_get (table_at tables aim.source.now.relation).rows position ≡ Some stored → Gathers (IsTakenFor aim stored) values old news new

-- only what stored rows of the source give was added, and all of it that agrees beside the candidates so far
abbrev pub GathersSource : List Stored → List (Edge ℕ) → Aim → List Value → Gathered → List Value → Gathered → Type 0
GathersSource tables es aim values old news new = IsGathered (IsFromSource tables aim) (IsAgreedFor tables values es aim) values old.rows.rows news new.rows.rows
