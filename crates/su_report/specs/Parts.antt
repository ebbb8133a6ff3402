-- Parts of the report: the lines of one kind of finding.
-- faults, notes: lines for exactly the numbers with a property, ascending; of faults also whether there is one
use Rattle.std.specs.Prelude.{ℕ, ◌≡◌, ◌↔◌, Bool, true, not, ◌==◌, List, length, flat_map}
use Rattle.std.specs.List.{range_with_len}
use Rattle.su_base.specs.Lists.{AreExactly}
use Rattle.su_fd.specs.declared.dependencies.Fd.{Fd}
use Rattle.su_schema.specs.SchemaValue.{SchemaValue}
use Rattle.su_maxobj.specs.MaximalObjects.{object_sets}
use Rattle.su_state.specs.Breaches.{fd_at}
use Rattle.su_show.specs.Lines.{AreLines}
use Rattle.su_advise.specs.Redundant.{IsRedundant, IsDroppable, IsSpare}
use Rattle.su_advise.specs.Unused.{IsUnpaired}
use Rattle.su_report.specs.DependencyLines.{redundant_lines, spare_lines}
use Rattle.su_report.specs.UnusedLines.{column_lines}

-- the numbers below n, ascending
abbrev pub below : ℕ → List ℕ
below n = range_with_len 0 n

-- lines for exactly the numbers with the property
abbrev pub AreNotes : (ℕ → Type 0) → (ℕ → List ℕ) → List ℕ → Type 0
AreNotes P line text = (found : List ℕ) × AreExactly P found × (text ≡ flat_map line found)

-- the same, and whether there is one
abbrev pub AreFaults : (ℕ → Type 0) → (ℕ → List ℕ) → Bool → List ℕ → Type 0
AreFaults P line fault text = (found : List ℕ) × AreExactly P found × (text ≡ flat_map line found) × (fault ≡ not (length found == 0))

-- the unpaired columns of a relation
abbrev pub ColumnsOf : SchemaValue → ℕ → List ℕ → Type 0
ColumnsOf schema r text = AreNotes (IsUnpaired schema r) (column_lines schema r) text

-- those of all relations, and whether there is one
abbrev pub ColumnFaults : SchemaValue → Bool → List ℕ → Type 0
ColumnFaults schema fault text = AreLines (ColumnsOf schema) (below (length schema.relations)) text × (fault ≡ not (length text == 0))

-- the line of a dependency that follows from the others
abbrev pub RedundantLine : SchemaValue → ℕ → List ℕ → Type 0
RedundantLine schema i text =
    (droppable : Bool) × ((droppable ≡ true) ↔ IsDroppable schema.fds (object_sets schema) i) × (text ≡ redundant_lines schema droppable (fd_at schema i))

-- the dependencies that do
abbrev pub Redundancies : SchemaValue → List ℕ → Type 0
Redundancies schema text = (found : List ℕ) × AreExactly (IsRedundant schema.fds) found × AreLines (RedundantLine schema) found text

-- the spare attributes of a dependency
abbrev pub SparesOf : SchemaValue → Fd → List ℕ → Type 0
SparesOf schema f text = AreNotes (IsSpare schema.fds f) (spare_lines schema f) text
