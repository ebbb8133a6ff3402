-- The cause of a fault, as it is handed on.
use Rattle.std.proofs.Common.{ℕ, ◌≤◌, arith}
use Rattle.sqlite_disk.specs.Disk.{MoreFaults}
use Rattle.sqlite_trees.specs.View.{View, HasCause}
use Rattle.sqlite_trees.specs.declared.error.StoreError.{StoreError}
use Rattle.sqlite_trees.specs.declared.error.StoreError.TheVariants as store
use Rattle.su_keep.specs.Causes.{HasKeepCause}
use Rattle.su_keep.specs.inside.Faults.{keep_fault}
use Rattle.su_keep.specs.declared.faults.KeepFault.{KeepFault}
use Rattle.su_keep.specs.declared.faults.KeepFault.TheVariants.{NoMemory, Io, Full, TooLong, Damaged}

-- an error of the store has the cause of what it is told as
pub cause_of_error : (old : View) (failed unstorable : Type 0) (error : StoreError) → HasCause old failed unstorable error → HasKeepCause failed (keep_fault error)
cause_of_error old failed unstorable store.OutOfMemory cause = tt
cause_of_error old failed unstorable store.Io cause = cause
cause_of_error old failed unstorable store.Corrupt cause = tt
cause_of_error old failed unstorable store.Full cause = cause
cause_of_error old failed unstorable store.Broken cause = tt
cause_of_error old failed unstorable store.Unstorable cause = tt

-- a disk that failed in a part of a call failed in it
pub cause_within : (before old new after : ℕ) (fault : KeepFault) → before ≤ old → new ≤ after → HasKeepCause (MoreFaults old new) fault → HasKeepCause (MoreFaults before after) fault
cause_within before old new after NoMemory first last cause = tt
cause_within before old new after Io first last cause = omega (arith, first, last, cause)
cause_within before old new after Full first last cause = omega (arith, first, last, cause)
cause_within before old new after TooLong first last cause = tt
cause_within before old new after Damaged first last cause = tt
