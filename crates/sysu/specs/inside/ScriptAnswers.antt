-- How a script is answered from a new session on.
-- session: the database of a session; script: its bytes; names: the run's two files; old, new: the outside before and after
-- status: how the run ends
-- No public contract cites this module.
use Rattle.std.specs.Prelude.{◌≡◌, ℕ, List}
use Rattle.su_io.specs.declared.status.Status.{Status}
use Rattle.su_io.specs.Moments.{Moment}
use Rattle.su_schema.specs.SchemaValue.{SchemaValue}
use Rattle.su_session.specs.EmptyDatabase.{empty_database}
use Rattle.su_state.specs.DatabaseValue.{DatabaseValue}
use Rattle.sysu.specs.inside.Turns.{IsAtScript, ScriptEnds}
use Rattle.sysu.specs.Words.{Named}

-- where the session is on the schema of a run that has just read its script, the statements end so
abbrev pub AnswersScript : DatabaseValue → List ℕ → Moment → Moment → Status → Type 0
AnswersScript session script old new status =
    (names : Named) (schema : SchemaValue) → session ≡ empty_database schema → IsAtScript names schema script old → ScriptEnds names old new status
