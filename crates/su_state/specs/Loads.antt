-- A load is its inserts one after another; the first refused one refuses the whole load.
-- record: a row of the load, from 1; between: the database that the rows before the refused one left
use Rattle.std.specs.Prelude.{◌≡◌, ℕ, ◌+◌, Bool, true, false, List, [], ◌∷◌, ◌++◌, length, Result, Ok, Err}
use Rattle.su_base.specs.declared.values.Value.{Value}
use Rattle.su_state.specs.declared.faults.LoadFault.{LoadFault}
use Rattle.su_state.specs.declared.faults.LoadEnd.{LoadEnd}
use Rattle.su_state.specs.declared.faults.LoadEnd.TheVariants.{Refused, NoMemory}
use Rattle.su_state.specs.DatabaseValue.{DatabaseValue}
use Rattle.su_state.specs.RowChanges.{Inserts}

-- how many rows an insert has added, by its answer
abbrev pub added_by : Bool → ℕ
added_by true = 1
added_by false = 0

-- the inserts of these rows are all accepted, and so many of them answered true
abbrev pub InsertsAll : DatabaseValue → ℕ → List (List Value) → ℕ → DatabaseValue → Type 0
InsertsAll db relation [] count new = (count ≡ 0) × (new ≡ db)
InsertsAll db relation (row ∷ rows) count new = (between : DatabaseValue) × (is_new : Bool) × (more : ℕ)
    × Inserts db relation row (Ok is_new) between
    × InsertsAll between relation rows more new
    × (count ≡ added_by is_new + more)

-- the rows before some row are accepted, one after another, and then this row is refused
pub record IsFirstRefusal (db : DatabaseValue) (relation : ℕ) (rows : List (List Value)) (refusal : LoadFault) : Type 0 where
  pub before : List (List Value)
  pub row : List Value
  pub after : List (List Value)
  pub count : ℕ
  pub between : DatabaseValue
  pub split : rows ≡ before ++ row ∷ after
  pub number : refusal.number ≡ length before + 1
  pub accepted : InsertsAll db relation before count between
  pub refused : Inserts between relation row (Err refusal.fault) between

-- a load of rows, its answer and the database after it: with the rows, or as before
abbrev pub Loads : DatabaseValue → ℕ → List (List Value) → Result ℕ LoadEnd → DatabaseValue → Type 0
Loads db relation rows (Ok count) new = InsertsAll db relation rows count new
Loads db relation rows (Err (Refused refusal)) new = IsFirstRefusal db relation rows refusal × (new ≡ db)
Loads db relation rows (Err NoMemory) new = ⊥
