-- What an error of the store is told as.
-- No public contract cites this module.
use Rattle.std.specs.Prelude.{ℕ}
use Rattle.sqlite_disk.specs.Disk.{MoreFaults}
use Rattle.sqlite_trees.specs.View.{View, IsClean}
use Rattle.sqlite_trees.specs.declared.error.StoreError.{StoreError}
use Rattle.sqlite_trees.specs.declared.error.StoreError.TheVariants as store
use Rattle.su_keep.specs.declared.faults.KeepFault.{KeepFault}
use Rattle.su_keep.specs.declared.faults.KeepFault.TheVariants.{NoMemory, Io, Full, TooLong, Damaged}
use Rattle.su_keep.specs.Causes.{HasKeepCause}

abbrev pub keep_fault : StoreError → KeepFault
keep_fault store.OutOfMemory = NoMemory
keep_fault store.Io = Io
keep_fault store.Full = Full
keep_fault store.Corrupt = Damaged
keep_fault store.Broken = Damaged
keep_fault store.Unstorable = TooLong

-- a call of the store is not kept for a cause, while the disk is clean
abbrev pub HasWriteCause : {S : Type 0} → (S → View) → (S → ℕ) → S → S → KeepFault → Type 0
HasWriteCause view faults old new fault = IsClean (view new) → HasKeepCause (MoreFaults (faults old) (faults new)) fault
