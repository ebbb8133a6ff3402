-- What changes make of the rows of a database. The rows of a relation are a set: their places may differ.
-- before, after: the databases before the changes and behind them; a relation that is new has no rows yet
use Rattle.std.specs.Prelude.{◌≡◌, ◌⊎◌, ◌↔◌, ℕ, true, false, Bool, List, [], ◌∷◌, Contains}
use Rattle.su_base.specs.declared.values.Value.{Value}
use Rattle.su_state.specs.DatabaseValue.{DatabaseValue, rows_of}
use Rattle.su_changes.specs.declared.changes.Change.{Change}

-- the rows of each relation, by its number
abbrev pub Rows : Type 0
Rows = ℕ → List (List Value)

-- the same rows
abbrev pub AreSame : List (List Value) → List (List Value) → Type 0
AreSame old new = (row : List Value) → Contains new row ↔ Contains old row

-- these rows are put into a relation's rows, or taken out of them
abbrev pub ChangesRows : Bool → List (List Value) → List (List Value) → List (List Value) → Type 0
ChangesRows true rows old new = (row : List Value) → Contains new row ↔ (Contains old row ⊎ Contains rows row)
ChangesRows false rows old new = (row : List Value) → Contains new row ↔ (Contains old row × ¬ (Contains rows row))

-- one change: the rows of the other relations are as before
abbrev pub MakesChange : Rows → Change → Rows → Type 0
MakesChange old change new =
    ChangesRows change.is_in change.rows (old change.relation) (new change.relation)
    × ((r : ℕ) → ¬ (r ≡ change.relation) → AreSame (old r) (new r))

-- the changes, one after another
abbrev pub MakesChanges : Rows → List Change → Rows → Type 0
MakesChanges old [] new = (r : ℕ) → AreSame (old r) (new r)
MakesChanges old (change ∷ changes) new = (between : Rows) × MakesChange old change between × MakesChanges between changes new

-- they lead from the rows of one database to those of the other
abbrev pub LeadTo : DatabaseValue → List Change → DatabaseValue → Type 0
LeadTo before changes after = MakesChanges (λ r. rows_of before r) changes (λ r. rows_of after r)
