-- What a command changes.
-- old, new: the databases before the command and behind it; file: the bytes that it is handed
use Rattle.std.specs.Prelude.{◌≡◌, ℕ, true, false, List, [], ◌∷◌, Option}
use Rattle.su_state.specs.DatabaseValue.{DatabaseValue}
use Rattle.su_changes.specs.Changes.{LeadTo}
use Rattle.su_changes.specs.Extensions.{IsExtension}
use Rattle.su_session.specs.declared.commands.Command.{Command}
use Rattle.su_session.specs.declared.replies.Reply.{Reply}
use Rattle.su_session.specs.Commands.{RepliedTo}
use Rattle.su_effects.specs.declared.effects.Effect.{Effect}
use Rattle.su_effects.specs.declared.effects.Effect.TheVariants.{Nothing, Defines, Changes}

-- what it makes of a database; the schema stays, but that a definition is added behind it
abbrev pub Makes : Effect → DatabaseValue → DatabaseValue → Type 0
Makes Nothing old new = LeadTo old [] new × (new.schema ≡ old.schema)
Makes Defines old new = LeadTo old [] new × IsExtension old.schema new.schema
Makes (Changes change) old new = LeadTo old (change ∷ []) new × (new.schema ≡ old.schema)

-- a refused command changes nothing, an accepted one makes this
pub record IsEffect (effect : Effect) (reply : Reply) (old new : DatabaseValue) : Type 0 where
  pub refused : reply.refused ≡ true → new ≡ old
  pub accepted : reply.refused ≡ false → Makes effect old new

-- whatever the command is replied, this is its effect
abbrev pub IsEffectOf : DatabaseValue → Command → Option (List ℕ) → Effect → Type 0
IsEffectOf db command file effect = (reply : Reply) (new : DatabaseValue) → RepliedTo db command file reply new → IsEffect effect reply db new
