-- The representative instance of a database: the padded rows, chased.
-- class, name: as in su_chase Chase
use Rattle.std.specs.Prelude.{◌≡◌, ℕ, ◌<◌, ◌≤◌, List, length, map, get_or, Contains, All}
use Rattle.su_base.specs.declared.values.Value.{Value}
use Rattle.su_tableau.specs.declared.symbols.Sym.{Sym}
use Rattle.su_tableau.specs.declared.symbols.Sym.TheVariants.{Const, Var}
use Rattle.su_tableau.specs.Tableaux.{AreBelow}
use Rattle.su_chase.specs.Chase.{IsClassName, IsConsistent}
use Rattle.su_state.specs.DatabaseValue.{DatabaseValue}
use Rattle.su_window.specs.declared.readings.Reading.{Reading}
use Rattle.su_window.specs.declared.windows.Representative.{Representative}
use Rattle.su_window.specs.Padded.{AreReadings, padded_rows}

-- no two constants meet in a class of the padded rows, and the rows are these by the names of their classes
pub record IsRepresentative (db : DatabaseValue) (rows : List (List Sym)) : Type 0 where
  pub readings : List Reading
  pub are : AreReadings db readings
  pub consistent : IsConsistent db.schema.fds (padded_rows db readings)
  pub name : Sym → Sym
  pub names : (x : Sym) → IsClassName db.schema.fds (padded_rows db readings) x (name x)
  pub is : rows ≡ map (map name) (padded_rows db readings)

-- some row has these constants at the attributes
abbrev pub HasConstants : List (List Sym) → List ℕ → List Value → Type 0
HasConstants rows attributes h = (row : List Sym) × Contains rows row × (map (λ a. get_or row a (Var 0)) attributes ≡ map Const h)

-- at most 20000 members; the rows are theirs, padded, no two constants meet in a class, and each variable has the name of its class
pub record Represents (db : DatabaseValue) (representative : Representative) : Type 0 where
  pub readings : List Reading
  pub are : AreReadings db readings
  pub few : length readings ≤ 20000
  pub rows : representative.rows ≡ padded_rows db readings
  pub below : All (AreBelow (length representative.names)) (padded_rows db readings)
  pub named : (k : ℕ) → k < length representative.names → IsClassName db.schema.fds (padded_rows db readings) (Var k) (get_or representative.names k (Var k))
  pub consistent : IsConsistent db.schema.fds (padded_rows db readings)
