-- How the telling of a text ends.
-- d: the dialect of SQL; script: its bytes; came: the status where no write fails; status: how the run ends
-- old, new: the outside before and after
-- No public contract cites this module.
use Rattle.std.specs.Prelude.{◌≡◌, ◌⊎◌, ℕ, List, Bool, true, false}
use Rattle.su_io.specs.declared.status.Status.{Status}
use Rattle.su_io.specs.declared.status.Status.TheVariants.{Done, SomeRefused, NoMemory}
use Rattle.su_io.specs.Moments.{Moment}
use Rattle.su_io.specs.WrittenTexts.{IsTold}
use Rattle.su_schema.specs.SchemaValue.{SchemaValue}
use Rattle.su_session.specs.declared.replies.Reply.{Reply}
use Rattle.su_sql.specs.declared.dialects.Dialect.{Dialect}
use Rattle.su_sql.specs.Scripts.{WritesScript}

-- the status of a script of which a statement was refused, or none
abbrev pub status_by : Bool → Status
status_by true = SomeRefused
status_by false = Done

-- the SQL of the script was told
pub record TellsSql (d : Dialect) (schema : SchemaValue) (script : List ℕ) (old new : Moment) (status : Status) : Type 0 where
  pub reply : Reply
  pub writes : WritesScript d schema script reply
  pub told : IsTold reply.bytes (status_by reply.refused) old new status

-- so, or there was no memory for it
abbrev pub SqlEnds : Dialect → SchemaValue → List ℕ → Moment → Moment → Status → Type 0
SqlEnds d schema script old new status = TellsSql d schema script old new status ⊎ ((status ≡ NoMemory) × (new ≡ old))
