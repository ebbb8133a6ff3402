-- What further definitions make of a schema: each list goes on behind what it had.
-- old, new: the schema before the definitions and behind them
use Rattle.std.specs.Prelude.{◌≡◌, ◌++◌, List}
use Rattle.su_schema.specs.SchemaValue.{SchemaValue}

-- a list, and what may stand behind it
abbrev pub GoesOn : {X : Type 0} → List X → List X → Type 0
GoesOn {X} old new = (more : List X) × (new ≡ old ++ more)

-- the new schema is the old one with further definitions behind
pub record IsExtension (old new : SchemaValue) : Type 0 where
  pub attributes : GoesOn old.attributes new.attributes
  pub relations : GoesOn old.relations new.relations
  pub objects : GoesOn old.objects new.objects
  pub fds : GoesOn old.fds new.fds
  pub declared : GoesOn old.declared new.declared
