-- An insert and a delete of one row, and what they answer: each answer comes exactly in its case, and the cases exclude one another.
-- answer of an insert: whether the row is new; of a delete: whether it was there
use Rattle.std.specs.Prelude.{◌≡◌, ℕ, ◌<◌, ◌≤◌, Bool, true, false, List, length, Contains, Result, Ok, Err}
use Rattle.su_base.specs.declared.values.Value.{Value}
use Rattle.su_state.specs.declared.faults.StateFault.{StateFault}
use Rattle.su_state.specs.declared.faults.StateFault.TheVariants.{UnknownRelation, Width, Kind, Breaks, Limit, NoMemory}
use Rattle.su_state.specs.DatabaseValue.{DatabaseValue, rows_of, columns_of, HasColumnKinds}
use Rattle.su_state.specs.UnfitRows.{IsUnfit}
use Rattle.su_state.specs.Breaches.{Breach, IsFirstOf, IsBreachBy}
use Rattle.su_state.specs.Changes.{Added, Removed}

-- what an insert of a row answers
abbrev pub InsertAnswers : DatabaseValue → ℕ → List Value → Result Bool StateFault → Type 0
InsertAnswers db relation row (Err (Width r given)) = IsUnfit relation (columns_of db relation) row (Width r given)
InsertAnswers db relation row (Err (Kind r column)) = IsUnfit relation (columns_of db relation) row (Kind r column)
InsertAnswers db relation row (Ok false) = HasColumnKinds (columns_of db relation) row × Contains (rows_of db relation) row
InsertAnswers db relation row (Err (Breaks r fd object other)) =
    HasColumnKinds (columns_of db relation) row × (¬ Contains (rows_of db relation) row)
    × IsFirstOf (IsBreachBy db relation row) (record { dependency = fd; object = object; first = row; second = other }) × (r ≡ relation)
InsertAnswers db relation row (Err (Limit r)) =
    HasColumnKinds (columns_of db relation) row × (¬ Contains (rows_of db relation) row)
    × ((b : Breach) → ¬ IsBreachBy db relation row b) × (1000000 ≤ length (rows_of db relation)) × (r ≡ relation)
InsertAnswers db relation row (Ok true) =
    HasColumnKinds (columns_of db relation) row × (¬ Contains (rows_of db relation) row)
    × ((b : Breach) → ¬ IsBreachBy db relation row b) × (length (rows_of db relation) < 1000000)
InsertAnswers db relation row (Err NoMemory) = ⊥
InsertAnswers db relation row (Err (UnknownRelation name)) = ⊥

-- an insert of a row, its answer and the database after it: as before, unless the row is new and not refused
abbrev pub Inserts : DatabaseValue → ℕ → List Value → Result Bool StateFault → DatabaseValue → Type 0
Inserts db relation row (Ok true) new = InsertAnswers db relation row (Ok true) × Added db relation row new
Inserts db relation row (Ok false) new = InsertAnswers db relation row (Ok false) × (new ≡ db)
Inserts db relation row (Err fault) new = InsertAnswers db relation row (Err fault) × (new ≡ db)

-- what a delete of a row answers
abbrev pub DeleteAnswers : DatabaseValue → ℕ → List Value → Result Bool StateFault → Type 0
DeleteAnswers db relation row (Err (Width r given)) = IsUnfit relation (columns_of db relation) row (Width r given)
DeleteAnswers db relation row (Err (Kind r column)) = IsUnfit relation (columns_of db relation) row (Kind r column)
DeleteAnswers db relation row (Ok false) = HasColumnKinds (columns_of db relation) row × (¬ Contains (rows_of db relation) row)
DeleteAnswers db relation row (Ok true) = HasColumnKinds (columns_of db relation) row × Contains (rows_of db relation) row
DeleteAnswers db relation row (Err _) = ⊥

-- a delete of a row, its answer and the database after it: as before, unless the row was there
abbrev pub Deletes : DatabaseValue → ℕ → List Value → Result Bool StateFault → DatabaseValue → Type 0
Deletes db relation row (Ok true) new = DeleteAnswers db relation row (Ok true) × Removed db relation row new
Deletes db relation row (Ok false) new = DeleteAnswers db relation row (Ok false) × (new ≡ db)
Deletes db relation row (Err fault) new = DeleteAnswers db relation row (Err fault) × (new ≡ db)
