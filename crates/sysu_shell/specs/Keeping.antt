-- What the file of a talk keeps.
-- clean disk: it answered what was written to it
use Rattle.std.specs.Prelude.{Some}
use Rattle.sqlite_trees.specs.declared.store.Store.{Ghosts}
use Rattle.su_state.specs.DatabaseValue.{DatabaseValue}
use Rattle.su_keep.specs.declared.keeping.Keeper.{Keeper}
use Rattle.su_keep.specs.Kept.{HasCleanDisk, IsAt}

-- the file shows the database, where its disk is clean
abbrev pub IsKept : {S : Type 0} {g : Ghosts S} → Keeper S g → DatabaseValue → Type 0
IsKept keeper db = HasCleanDisk keeper → IsAt keeper (Some db)
