-- The whole report on a schema: its parts one behind another, and whether a line is a fault.
use Rattle.std.specs.Prelude.{ℕ, ◌≡◌, ◌↔◌, ◌<◌, IsTrue, Bool, ◌||◌, List, ◌++◌, length}
use Rattle.std.specs.Ordering.{nat_cmp}
use Rattle.std.specs.FinSet.{FinSet, contains}
use Rattle.su_base.specs.Sets.{set_at}
use Rattle.su_schema.specs.SchemaValue.{SchemaValue}
use Rattle.su_maxobj.specs.MaximalObjects.{object_sets, AreMaximalObjects}
use Rattle.su_schema.specs.SetMembers.{numbers_in}
use Rattle.su_state.specs.Breaches.{fd_at}
use Rattle.su_show.specs.Lines.{AreLines}
use Rattle.su_advise.specs.Alone.{IsAlone}
use Rattle.su_advise.specs.Lying.{IsKeptNowhere}
use Rattle.su_advise.specs.Unused.{IsUnused, IsUnread}
use Rattle.su_report.specs.DependencyLines.{nowhere_lines}
use Rattle.su_report.specs.MaximalParts.{Hang, AreCovers, PairsOf}
use Rattle.su_report.specs.ObjectParts.{ObjectNotes}
use Rattle.su_report.specs.Parts.{below, AreNotes, AreFaults, ColumnFaults, Redundancies, SparesOf}
use Rattle.su_report.specs.UnusedLines.{attribute_lines, relation_lines, alone_lines}
use Rattle.su_report.specs.declared.reporting.Report.{Report}

-- what no object uses and what lies in none: faults
pub record LooseEnds (schema : SchemaValue) (fault : Bool) (text : List ℕ) : Type 0 where
  pub attributes : List ℕ
  pub some_attribute : Bool
  pub attributes_are : AreFaults (IsUnused (length schema.attributes) (object_sets schema)) (attribute_lines schema) some_attribute attributes
  pub relations : List ℕ
  pub some_relation : Bool
  pub relations_are : AreFaults (IsUnread schema) (relation_lines schema) some_relation relations
  pub columns : List ℕ
  pub some_column : Bool
  pub columns_are : ColumnFaults schema some_column columns
  pub dependencies : List ℕ
  pub some_dependency : Bool
  pub dependencies_are : AreFaults (IsKeptNowhere schema.fds (object_sets schema)) (λ i. nowhere_lines schema (fd_at schema i)) some_dependency dependencies
  pub fault_is : fault ≡ (some_attribute || some_relation || some_column || some_dependency)
  pub text_is : text ≡ attributes ++ relations ++ columns ++ dependencies

-- lone objects, what dependencies say twice, and keys and forms of objects: notes
pub record Notes (schema : SchemaValue) (maximal : List (FinSet nat_cmp)) (text : List ℕ) : Type 0 where
  pub lone : List ℕ
  pub lone_are : AreNotes (IsAlone (length schema.objects) maximal) (alone_lines schema) lone
  pub redundant : List ℕ
  pub redundant_are : Redundancies schema redundant
  pub spare : List ℕ
  pub spare_are : AreLines (SparesOf schema) schema.fds spare
  pub objects : List ℕ
  pub objects_are : AreLines (ObjectNotes schema) (below (length schema.objects)) objects
  pub text_is : text ≡ lone ++ redundant ++ spare ++ objects

-- the pairs of attributes that are in no maximal object, or in several
pub record Pairs (schema : SchemaValue) (maximal : List (FinSet nat_cmp)) (text : List ℕ) : Type 0 where
  pub covers : List (FinSet nat_cmp)
  pub covers_are : AreCovers schema maximal covers
  pub all : FinSet nat_cmp
  pub all_are : (a : ℕ) → IsTrue (contains all a) ↔ ((k : ℕ) × (k < length (object_sets schema)) × IsTrue (contains (set_at (object_sets schema) k) a))
  pub lines : AreLines (PairsOf schema all covers) (numbers_in all (length schema.attributes)) text

-- all of it
pub record IsReport (schema : SchemaValue) (report : Report) : Type 0 where
  pub maximal : List (FinSet nat_cmp)
  pub maximal_are : AreMaximalObjects schema maximal
  pub loose : List ℕ
  pub some_loose : Bool
  pub loose_are : LooseEnds schema some_loose loose
  pub notes : List ℕ
  pub notes_are : Notes schema maximal notes
  pub cycles : List ℕ
  pub some_cycle : Bool
  pub cycles_are : Hang schema 0 maximal some_cycle cycles
  pub pairs : List ℕ
  pub pairs_are : Pairs schema maximal pairs
  pub fault_is : report.fault ≡ (some_loose || some_cycle)
  pub text_is : report.bytes ≡ loose ++ notes ++ cycles ++ pairs
