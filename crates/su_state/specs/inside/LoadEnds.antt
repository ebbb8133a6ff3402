-- How a load ends where a row of it is refused.
-- end: want of memory has no number; a refusal has that of its row, from 1
-- No public contract cites this module.
use Rattle.std.specs.Prelude.{◌≡◌, ◌≢◌, ◌⊎◌, ℕ, List, Result, Ok, Err}
use Rattle.su_base.specs.declared.values.Value.{Value}
use Rattle.su_state.specs.declared.faults.StateFault.{StateFault}
use Rattle.su_state.specs.declared.faults.StateFault.TheVariants.{NoMemory}
use Rattle.su_state.specs.declared.faults.LoadEnd.{LoadEnd}
use Rattle.su_state.specs.declared.faults.LoadEnd.TheVariants.{Refused, NoMemory as OutOfMemory}
use Rattle.su_state.specs.DatabaseValue.{DatabaseValue}
use Rattle.su_state.specs.Changes.{ChangesOnly}
use Rattle.su_state.specs.Loads.{InsertsAll, IsFirstRefusal}

-- how a load ends where the insert of the row with this number is refused: want of memory has no number
abbrev pub IsEnd : ℕ → StateFault → LoadEnd → Type 0
IsEnd number fault end =
    ((fault ≡ NoMemory) × (end ≡ OutOfMemory))
    ⊎ ((fault ≢ NoMemory) × (end ≡ Refused (record { number = number; fault = fault })))

-- inserts of rows one after another up to the first refused one, and the database after the accepted ones
abbrev pub InsertsSome : DatabaseValue → ℕ → List (List Value) → Result ℕ LoadEnd → DatabaseValue → Type 0
InsertsSome db relation rows (Ok count) new = InsertsAll db relation rows count new
InsertsSome db relation rows (Err OutOfMemory) new = ChangesOnly relation db new
InsertsSome db relation rows (Err (Refused refusal)) new = ChangesOnly relation db new × IsFirstRefusal db relation rows refusal
