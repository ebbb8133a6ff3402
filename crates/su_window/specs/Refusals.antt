-- Why a window is refused.
-- clash: two constants that the dependencies make equal in the padded rows; members: as in Members
use Rattle.std.specs.Prelude.{◌≤◌, List, length}
use Rattle.su_base.specs.declared.values.Value.{Value}
use Rattle.su_chase.specs.Chase.{IsClash}
use Rattle.su_state.specs.DatabaseValue.{DatabaseValue}
use Rattle.su_rel.specs.MoreThan.{AreMoreThan}
use Rattle.su_window.specs.declared.faults.WindowFault.{WindowFault}
use Rattle.su_window.specs.declared.faults.WindowFault.TheVariants.{Limit, Inconsistent, NoMemory}
use Rattle.su_window.specs.declared.readings.Reading.{Reading}
use Rattle.su_window.specs.Window.{Fits}
use Rattle.su_window.specs.Members.{IsMember}
use Rattle.su_window.specs.Padded.{AreReadings, padded_rows}

-- at most 20000 members, and in their padded rows the two constants clash
pub record Clashes (db : DatabaseValue) (less greater : Value) : Type 0 where
  pub readings : List Reading
  pub are : AreReadings db readings
  pub few : length readings ≤ 20000
  pub clash : IsClash db.schema.fds (padded_rows db readings) less greater

-- more than 20000 members; or not, and no universal relation fits; want of memory is no cause
abbrev pub IsWindowRefusal : DatabaseValue → WindowFault → Type 0
IsWindowRefusal db Limit = AreMoreThan 20000 (IsMember db)
IsWindowRefusal db (Inconsistent less greater) = Clashes db less greater × ((universe : List (List Value)) → ¬ Fits db universe)
IsWindowRefusal db NoMemory = ⊥
