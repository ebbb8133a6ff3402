-- How a tree is read, or why it is not.
-- old, new: what the store shows before, or the store itself, and after it
use Rattle.std.specs.Prelude.{◌≡◌, ◌<◌, ◌+◌, ℕ, false, length, slice_get, Option, Some, ⊤}
use Rattle.sqlite_disk.specs.Disk.{MoreFaults}
use Rattle.sqlite_trees.specs.View.{View, HasCause, IsClean, KeepsCommitted, Tells}
use Rattle.sqlite_trees.specs.declared.error.StoreError.{StoreError}
use Rattle.sqlite_value.specs.Order.{Row as Entry}
use Rattle.su_entries.specs.Entries.{HoldsRow}
use Rattle.su_entries.specs.declared.faults.ReadFault.{ReadFault}
use Rattle.su_entries.specs.declared.faults.ReadFault.TheVariants.{Store, NoRow, TooMany, NoMemory}

-- only cursors have moved
abbrev pub MovesCursors : View → View → Type 0
MovesCursors old new = new ≡ record old { cursors = new.cursors }

-- what is committed stands, and in a store that isn't broken only cursors have moved
pub record StandsAfterFault (old new : View) : Type 0 where
  pub kept : KeepsCommitted old new
  pub same : new.is_broken ≡ false → MovesCursors old new

-- The store has a cause for its error, the entry with that number from 1 holds no row, or there are more than `most`.
abbrev pub IsReadFault : View → Type 0 → ℕ → ℕ → ReadFault → Type 0
IsReadFault old fault tree most (Store error) = HasCause old fault ⊥ error
IsReadFault old fault tree most (NoRow number) = (entry : Entry) × (at : ℕ) × (number ≡ at + 1) × (slice_get (old.trees tree) at ≡ Some entry) × (¬ HoldsRow entry)
IsReadFault old fault tree most TooMany = most < length (old.trees tree)
IsReadFault old fault tree most NoMemory = ⊤

-- the fault is one of these
abbrev pub FailsToRead : {S : Type 0} → (S → View) → (S → ℕ) → S → S → ℕ → ℕ → ReadFault → Type 0
FailsToRead view faults old new tree most fault = IsClean (view new) → IsReadFault (view old) (MoreFaults (faults old) (faults new)) tree most fault

-- an error of the store is told as the kind that the store last answered, where it keeps that
abbrev pub TellsKind : Option StoreError → ReadFault → Type 0
TellsKind blamed (Store error) = Tells blamed error
TellsKind blamed (NoRow number) = ⊤
TellsKind blamed TooMany = ⊤
TellsKind blamed NoMemory = ⊤
