-- Why no universal relation meets the dependencies and includes the stored rows.
-- member: an object and a list of its view; it stands for a row of every universal relation that includes the stored rows
-- row of a member: its values at the object's attributes, symbols of its own elsewhere (su_window Padded)
-- fits: a universal relation that meets the dependencies and includes the stored rows
use Rattle.std.specs.Prelude.{IsTrue, List, map, Option, Some, None}
use Rattle.su_base.specs.declared.values.Value.{Value}
use Rattle.su_tableau.specs.declared.symbols.Sym.{Sym}
use Rattle.su_rel.specs.MoreThan.{AreMoreThan}
use Rattle.su_state.specs.DatabaseValue.{DatabaseValue}
use Rattle.su_window.specs.declared.readings.Reading.{Reading}
use Rattle.su_window.specs.Members.{IsMember, HasFew}
use Rattle.su_window.specs.Padded.{AreReadings, padded_rows}
use Rattle.su_window.specs.Window.{Fits}
use Rattle.su_clash.specs.declared.members.Member.{Member}
use Rattle.su_clash.specs.declared.clashing.Clash.{Clash}
use Rattle.su_clash.specs.declared.faults.ClashFault.{ClashFault}
use Rattle.su_clash.specs.declared.faults.ClashFault.TheVariants.{Limit, NoMemory}
use Rattle.su_clash.specs.Derivations.{Clashes, IsDerivation, AllAreNeeded, AreFewest}

-- the object and the position of a member's row, as they are read
abbrev pub reading_of : Member → Reading
reading_of m = record { object = m.object; position = m.position }

-- the rows of the members
abbrev pub rows_of_members : DatabaseValue → List Member → List (List Sym)
rows_of_members db members = padded_rows db (map reading_of members)

-- the steps of a clash refute the rows of the members, each once; none can be left out, and there are no fewer where that is said
pub record IsClashOf (db : DatabaseValue) (c : Clash) : Type 0 where
  pub members : AreReadings db (map reading_of c.members)
  pub derivation : IsDerivation db.schema.fds (rows_of_members db c.members) c.steps
  pub clash : Clashes db.schema.fds (rows_of_members db c.members) c.steps c.one c.other
  pub needed : AllAreNeeded db.schema.fds (rows_of_members db c.members) c.steps
  pub fewest : IsTrue c.fewest → AreFewest db.schema.fds (rows_of_members db c.members) c.steps

-- no universal relation fits
abbrev pub NothingFits : DatabaseValue → Type 0
NothingFits db = (universe : List (List Value)) → ¬ Fits db universe

-- the rows are refuted by the clash, or some universal relation fits
abbrev pub IsVerdict : DatabaseValue → Option Clash → Type 0
IsVerdict db (Some c) = IsClashOf db c × NothingFits db
IsVerdict db None = HasFew db × ((universe : List (List Value)) × Fits db universe)

-- more members than are looked at; want of memory is no cause
abbrev pub IsClashRefusal : DatabaseValue → ClashFault → Type 0
IsClashRefusal db Limit = AreMoreThan 20000 (IsMember db)
IsClashRefusal db NoMemory = ⊥
