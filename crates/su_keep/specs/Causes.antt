-- Why a group is not kept.
-- failed: the disk failed during the call
use Rattle.std.specs.Prelude.{⊤}
use Rattle.su_keep.specs.declared.faults.KeepFault.{KeepFault}
use Rattle.su_keep.specs.declared.faults.KeepFault.TheVariants.{NoMemory, Io, Full, TooLong, Damaged}

-- The disk failed, or memory was wanting. That the file is damaged, or that a row is longer than its format holds, is only tested.
abbrev pub HasKeepCause : Type 0 → KeepFault → Type 0
HasKeepCause failed NoMemory = ⊤
HasKeepCause failed Io = failed
HasKeepCause failed Full = failed
HasKeepCause failed TooLong = ⊤
HasKeepCause failed Damaged = ⊤
