-- What came of one statement.
-- No public contract cites this module.
use Rattle.std.specs.Prelude.{◌≡◌, ℕ, List, [], ◌∷◌, ◌++◌, true, Option}
use Rattle.su_io.specs.declared.files.File.{File as AFile}
use Rattle.su_state.specs.DatabaseValue.{DatabaseValue}
use Rattle.su_effects.specs.Effects.{Makes}
use Rattle.su_effects.specs.declared.effects.Effect.{Effect}
use Rattle.su_effects.specs.declared.effects.Effect.TheVariants.{Nothing, Defines, Changes}
use Rattle.su_session.specs.declared.commands.Command.{Command}
use Rattle.su_session.specs.declared.wants.Want.TheVariants.{File}
use Rattle.su_session.specs.Commands.{IsRead}
use Rattle.su_session.specs.WantedFiles.{Wants}
use Rattle.su_talk.specs.declared.answering.Outcome.{Outcome}
use Rattle.su_talk.specs.declared.groups.Group.{Group}
use Rattle.su_talk.specs.Answers.{AnswersOne}

-- a statement was answered, and what it changed was found
pub record ComesOf (files : Option (List AFile)) (text : List ℕ) (old : DatabaseValue) (outcome : Outcome) (new : DatabaseValue) : Type 0 where
  pub answers : AnswersOne files old text outcome.reply new
  pub makes : Makes outcome.effect old new

-- so of each text that was read as this command and wants this file
abbrev pub ComesOfLoad : Option (List AFile) → List ℕ → Command → DatabaseValue → Outcome → DatabaseValue → Type 0
ComesOfLoad files path command old outcome new = (text : List ℕ) → IsRead text command → Wants old text (File path) → ComesOf files text old outcome new

-- a group takes up what was changed
abbrev pub TakesEffect : Effect → Group → Group → Type 0
TakesEffect Nothing old new = new ≡ old
TakesEffect Defines old new = (new.replies ≡ old.replies) × (new.changed ≡ true) × (new.changes ≡ old.changes)
TakesEffect (Changes change) old new = (new.replies ≡ old.replies) × (new.changed ≡ true) × (new.changes ≡ old.changes ++ change ∷ [])
