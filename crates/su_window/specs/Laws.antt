-- Laws of windows.
-- fits: a universal relation that meets the dependencies and includes the stored rows
use Rattle.std.specs.Prelude.{◌↔◌, ℕ, ◌<◌, List, All}
use Rattle.su_base.specs.declared.values.Value.{Value}
use Rattle.su_tableau.specs.declared.symbols.Sym.{Sym}
use Rattle.su_chase.specs.Chase.{IsClash}
use Rattle.su_schema.specs.Cuts.{width}
use Rattle.su_state.specs.DatabaseValue.{DatabaseValue, IsWellKept}
use Rattle.su_window.specs.declared.readings.Reading.{Reading}
use Rattle.su_window.specs.Padded.{AreReadings, padded_rows}
use Rattle.su_window.specs.Representative.{IsRepresentative, HasConstants}
use Rattle.su_window.specs.Window.{Fits, InWindow}

-- the window is exactly what the representative instance has of constants at the attributes
abbrev pub WindowsAreConstantRows : Type 0
WindowsAreConstantRows = (db : DatabaseValue) (rows : List (List Sym)) (attributes : List ℕ) (h : List Value) → IsWellKept db → IsRepresentative db rows → All (λ a. a < width db.schema) attributes
    → (InWindow db attributes h ↔ HasConstants rows attributes h)

-- where there is a representative instance, some universal relation fits
abbrev pub RepresentedRowsFit : Type 0
RepresentedRowsFit = (db : DatabaseValue) (rows : List (List Sym)) → IsWellKept db → IsRepresentative db rows → (universe : List (List Value)) × Fits db universe

-- where the chase of the padded rows clashes, none does
abbrev pub ClashesFitNothing : Type 0
ClashesFitNothing = (db : DatabaseValue) (readings : List Reading) (less greater : Value) → IsWellKept db → AreReadings db readings → IsClash db.schema.fds (padded_rows db readings) less greater
    → (universe : List (List Value)) → ¬ Fits db universe
