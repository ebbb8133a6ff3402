-- Databases that are alike have one window on some attributes, or none for one cause.
-- alike: databases of one schema with the same sets of rows; window: as in su_window
use Rattle.std.specs.Prelude.{◌≡◌, ℕ, List}
use Rattle.su_base.specs.declared.values.Value.{Value}
use Rattle.su_rel.specs.ExactRows.{AreExactlyRows}
use Rattle.su_state.specs.DatabaseValue.{DatabaseValue}
use Rattle.su_window.specs.declared.faults.WindowFault.{WindowFault}
use Rattle.su_window.specs.Window.{Fits, InWindow}
use Rattle.su_window.specs.Members.{HasFew}
use Rattle.su_window.specs.Refusals.{IsWindowRefusal}
use Rattle.su_once.specs.States.{AreAlike}

-- the rows of the window, ascending, each once
abbrev pub IsWindow : DatabaseValue → List ℕ → List (List Value) → Type 0
IsWindow db attributes rows = AreExactlyRows (InWindow db attributes) rows

-- over databases that are alike a window has at most one list of rows
abbrev pub OneWindow : Type 0
OneWindow = (a b : DatabaseValue) (attributes : List ℕ) (rows others : List (List Value)) → AreAlike a b → IsWindow a attributes rows → IsWindow b attributes others → rows ≡ others

-- a window is refused for at most one cause
abbrev pub OneWindowRefusal : Type 0
OneWindowRefusal = (a b : DatabaseValue) (why other : WindowFault) → AreAlike a b → IsWindowRefusal a why → IsWindowRefusal b other → why ≡ other

-- a window that is refused has too many members, or no universal relation fits
abbrev pub RefusedOrFitting : Type 0
RefusedOrFitting = (a b : DatabaseValue) (why : WindowFault) (universe : List (List Value)) → AreAlike a b → IsWindowRefusal a why → HasFew b → ¬ Fits b universe
