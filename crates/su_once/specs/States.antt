-- Databases that are alike stay so under equal changes, which have equal answers.
-- alike: the same schema, and in each relation the same set of rows, in whichever order
use Rattle.std.specs.Prelude.{◌≡◌, ◌↔◌, ℕ, Bool, List, length, Contains, Result}
use Rattle.su_base.specs.declared.values.Value.{Value}
use Rattle.su_where.specs.Truth.{Cond}
use Rattle.su_schema.specs.declared.definitions.Definition.{Definition}
use Rattle.su_state.specs.declared.faults.StateFault.{StateFault}
use Rattle.su_state.specs.declared.faults.LoadEnd.{LoadEnd}
use Rattle.su_state.specs.declared.faults.DefineFault.{DefineFault}
use Rattle.su_state.specs.DatabaseValue.{DatabaseValue, rows_of, IsWellKept}
use Rattle.su_state.specs.Changes.{AreInOrder, DeletesWhere}
use Rattle.su_state.specs.RowChanges.{Inserts, Deletes}
use Rattle.su_state.specs.Loads.{Loads}
use Rattle.su_state.specs.Definitions.{Defines}

-- one schema, and in each relation the same rows, equally many
pub record AreAlike (a b : DatabaseValue) : Type 0 where
  pub schema : a.schema ≡ b.schema
  pub tables : length a.tables ≡ length b.tables
  pub rows : (r : ℕ) (row : List Value) → Contains (rows_of a r) row ↔ Contains (rows_of b r) row
  pub counts : (r : ℕ) → length (rows_of a r) ≡ length (rows_of b r)

-- the rows of a relation have one order
abbrev pub OneOrder : Type 0
OneOrder = (a b : DatabaseValue) (r : ℕ) (rows others : List (List Value)) → AreAlike a b → AreInOrder (rows_of a r) rows → AreInOrder (rows_of b r) others → rows ≡ others

-- an insert has one answer, and leaves databases that are alike
abbrev pub OneInsert : Type 0
OneInsert = (a b c d : DatabaseValue) (r : ℕ) (row : List Value) (x y : Result Bool StateFault) → AreAlike a b
    → Inserts a r row x c → Inserts b r row y d → (x ≡ y) × AreAlike c d

-- a delete has one answer, and leaves databases that are alike
abbrev pub OneDelete : Type 0
OneDelete = (a b c d : DatabaseValue) (r : ℕ) (row : List Value) (x y : Result Bool StateFault) → AreAlike a b
    → Deletes a r row x c → Deletes b r row y d → (x ≡ y) × AreAlike c d

-- a delete by a condition has one count, and leaves databases that are alike
abbrev pub OneDeleteWhere : Type 0
OneDeleteWhere = (a b c d : DatabaseValue) (r : ℕ) (condition : Cond) (m n : ℕ) → AreAlike a b → IsWellKept a → IsWellKept b
    → DeletesWhere a r condition m c → DeletesWhere b r condition n d → (m ≡ n) × AreAlike c d

-- a load has one answer, and leaves databases that are alike
abbrev pub OneLoad : Type 0
OneLoad = (a b c d : DatabaseValue) (r : ℕ) (rows : List (List Value)) (x y : Result ℕ LoadEnd) → AreAlike a b
    → Loads a r rows x c → Loads b r rows y d → (x ≡ y) × AreAlike c d

-- a definition has one answer, and leaves databases that are alike
abbrev pub OneDefinition : Type 0
OneDefinition = (a b c d : DatabaseValue) (definition : Definition) (x y : Result (Unit {0}) DefineFault) → AreAlike a b
    → Defines a definition x c → Defines b definition y d → (x ≡ y) × AreAlike c d
