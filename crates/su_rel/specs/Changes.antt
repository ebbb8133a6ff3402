-- How a set of rows changes.
-- put in: the row is last unless it was there; taken out: the row is gone, every other row is there
use Rattle.std.specs.Prelude.{◌≡◌, ◌⊎◌, Bool, MatchBool, List, [], ◌∷◌, ◌++◌, Contains, ◌↔◌}
use Rattle.su_base.specs.declared.values.Value.{Value}
use Rattle.su_rel.specs.Stored.{Stored}

-- one row is put in
abbrev pub PutIn : List (List Value) → List Value → List (List Value) → Type 0
PutIn old row new = (Contains old row × (new ≡ old)) ⊎ ((¬ Contains old row) × (new ≡ old ++ row ∷ []))

-- a row is put in, and it is told whether it is new; one that was there changes nothing
abbrev pub TellsNew : Bool → Stored → List Value → Stored → Type 0
TellsNew is_new old row new = MatchBool is_new ((¬ Contains old.rows row) × (new.rows ≡ old.rows ++ row ∷ [])) (Contains old.rows row × (new ≡ old))

-- rows are put in one after another
abbrev pub PutInAll : List (List Value) → List (List Value) → List (List Value) → Type 0
PutInAll old [] new = new ≡ old
PutInAll old (row ∷ rows) new = (between : List (List Value)) × PutIn old row between × PutInAll between rows new

-- a row is taken out; positions may change
abbrev pub TakenOut : List (List Value) → List Value → List (List Value) → Type 0
TakenOut old row new = (other : List Value) → Contains new other ↔ (Contains old other × ¬ (other ≡ row))
