-- How an outcome is told.
-- accepted: the text alone; refused: the line of the refusal, and the database is as before
use Rattle.std.specs.Prelude.{◌≡◌, ℕ, Bool, true, false, List, Result, Ok, Err}
use Rattle.std.specs.List.{list_any}
use Rattle.su_state.specs.DatabaseValue.{DatabaseValue}
use Rattle.su_state.specs.declared.faults.StateFault.{StateFault}
use Rattle.su_state.specs.declared.faults.LoadEnd.{LoadEnd}
use Rattle.su_state.specs.declared.faults.LoadEnd.TheVariants as load
use Rattle.su_state.specs.declared.faults.DefineFault.{DefineFault}
use Rattle.su_show.specs.declared.statement_refusal.Refusal.{Refusal}
use Rattle.su_show.specs.declared.statement_refusal.Refusal.TheVariants.{State, Record, Define}
use Rattle.su_show.specs.RefusalLines.{IsRefusalLine}
use Rattle.su_show.specs.Changes.{inserted_text, deleted_text, loaded_text, defined_text}
use Rattle.su_session.specs.declared.replies.Reply.{Reply}

-- an accepted statement with this text
pub record Accepts (text : List ℕ) (reply : Reply) : Type 0 where
  pub accepted : reply.refused ≡ false
  pub text_is : reply.bytes ≡ text

-- a refused statement with the line of its refusal; nothing changes
pub record Refuses (db : DatabaseValue) (refusal : Refusal) (reply : Reply) (new : DatabaseValue) : Type 0 where
  pub refused : reply.refused ≡ true
  pub line : IsRefusalLine db.schema refusal reply.bytes
  pub same : new ≡ db

-- some reply is a refusal
abbrev pub some_refused : List Reply → Bool
some_refused replies = list_any (λ reply. reply.refused) replies

-- the answer to an insert
abbrev pub TellsInsert : DatabaseValue → Result Bool StateFault → Reply → DatabaseValue → Type 0
TellsInsert db (Ok true) reply new = Accepts (inserted_text 1) reply
TellsInsert db (Ok false) reply new = Accepts (inserted_text 0) reply
TellsInsert db (Err fault) reply new = Refuses db (State fault) reply new

-- the answer to a delete of a row
abbrev pub TellsDelete : DatabaseValue → Result Bool StateFault → Reply → DatabaseValue → Type 0
TellsDelete db (Ok true) reply new = Accepts (deleted_text 1) reply
TellsDelete db (Ok false) reply new = Accepts (deleted_text 0) reply
TellsDelete db (Err fault) reply new = Refuses db (State fault) reply new

-- the answer to a load of so many records
abbrev pub TellsLoad : DatabaseValue → ℕ → Result ℕ LoadEnd → Reply → DatabaseValue → Type 0
TellsLoad db records (Ok count) reply new = Accepts (loaded_text count records) reply
TellsLoad db records (Err (load.Refused fault)) reply new = Refuses db (Record fault) reply new
TellsLoad db records (Err load.NoMemory) reply new = ⊥

-- the answer to a definition
abbrev pub TellsDefine : DatabaseValue → Result (Unit {0}) DefineFault → Reply → DatabaseValue → Type 0
TellsDefine db (Ok _) reply new = Accepts defined_text reply
TellsDefine db (Err fault) reply new = Refuses db (Define fault) reply new
