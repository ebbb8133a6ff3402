-- One step of reading a tree, and what has been read so far.
-- start, old, new: what the store shows when the reading begins, before the step and after it
-- rows, more: those that were read before the step, and after it
-- No public contract cites this module.
use Rattle.std.specs.Prelude.{◌≡◌, ◌++◌, ℕ, Bool, true, false, List, [], ◌∷◌, map, All, Some, ⊤}
use Rattle.su_base.specs.declared.values.Value.{Value as AValue}
use Rattle.sqlite_value.specs.Order.{Row as Entry}
use Rattle.sqlite_disk.specs.Disk.{MoreFaults}
use Rattle.sqlite_trees.specs.View.{View, HasCause, IsClean}
use Rattle.su_entries.specs.Entries.{entry_of, HoldsRow}
use Rattle.su_entries.specs.Reading.{MovesCursors}
use Rattle.su_entries.specs.declared.faults.ReadFault.{ReadFault}
use Rattle.su_entries.specs.declared.faults.ReadFault.TheVariants.{Store, NoRow, TooMany, NoMemory}

-- the row of the first cursor's next entry is read
pub record ReadsRow (old new : View) (rows more : List (List AValue)) : Type 0 where
  pub row : List AValue
  pub left : List Entry
  pub given : old.cursors 0 ≡ Some (entry_of row ∷ left)
  pub taken : new.cursors 0 ≡ Some left
  pub put : more ≡ rows ++ row ∷ []
  pub held : HoldsRow (entry_of row)
  pub same : MovesCursors old new

-- the first cursor is at its end
pub record IsAtEnd (old new : View) (rows more : List (List AValue)) : Type 0 where
  pub none : old.cursors 0 ≡ Some []
  pub put : more ≡ rows
  pub same : MovesCursors old new

abbrev pub ReadsOne : View → View → List (List AValue) → List (List AValue) → Bool → Type 0
ReadsOne old new rows more true = ReadsRow old new rows more
ReadsOne old new rows more false = IsAtEnd old new rows more

-- The store has a cause for its error, or the next entry, which has this number, holds no row.
abbrev pub IsStepFault : View → Type 0 → ℕ → ReadFault → Type 0
IsStepFault old fault number (Store error) = HasCause old fault ⊥ error
IsStepFault old fault number (NoRow told) = (entry : Entry) × (left : List Entry) × (told ≡ number) × (old.cursors 0 ≡ Some (entry ∷ left)) × (¬ HoldsRow entry)
IsStepFault old fault number TooMany = ⊥
IsStepFault old fault number NoMemory = ⊤

-- the fault is one of these
abbrev pub FailsAtStep : {S : Type 0} → (S → View) → (S → ℕ) → S → S → ℕ → ReadFault → Type 0
FailsAtStep view faults old new number fault = IsClean (view new) → IsStepFault (view old) (MoreFaults (faults old) (faults new)) number fault

-- these rows were read of the entries, and the first cursor has the others
pub record HasRead (entries : List Entry) (start now : View) (rows : List (List AValue)) : Type 0 where
  pub left : List Entry
  pub parts : entries ≡ map entry_of rows ++ left
  pub cursor : now.cursors 0 ≡ Some left
  pub held : All HoldsRow (map entry_of rows)
  pub same : MovesCursors start now
