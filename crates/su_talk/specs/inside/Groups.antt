-- How a group is closed.
-- No public contract cites this module.
use Rattle.std.specs.Prelude.{◌≡◌, ℕ, Bool, true, false, List, [], ◌∷◌, ◌++◌, Option}
use Rattle.su_io.specs.Ends.{Grew}
use Rattle.su_state.specs.DatabaseValue.{DatabaseValue}
use Rattle.su_talk.specs.declared.closes.Close.{Close}
use Rattle.su_talk.specs.declared.closes.Close.TheVariants.{WriteFault, KeepFault}
use Rattle.su_talk.specs.declared.groups.Group.{Group}
use Rattle.su_talk.specs.Events.{Event}
use Rattle.su_talk.specs.Events.Event.{Kept, NotKept, Told, NotTold}

-- the commit of a group, where it has changed something
abbrev pub keeping : Bool → DatabaseValue → List Event
keeping true db = Kept db ∷ []
keeping false db = []

-- the hand-over of its replies, where it has some
abbrev pub telling : List ℕ → List Event
telling [] = []
telling (byte ∷ bytes) = Told (byte ∷ bytes) ∷ []

-- what happens as a group is closed
abbrev pub closing : Group → DatabaseValue → List Event
closing group db = keeping group.changed db ++ telling group.replies.items

-- what happens where that fails
abbrev pub FailsBy : Close → Group → DatabaseValue → List Event → Type 0
FailsBy KeepFault group db events = events ≡ NotKept db ∷ []
FailsBy WriteFault group db events = events ≡ keeping group.changed db ++ NotTold group.replies.items ∷ []
FailsBy _ group db events = ⊥

-- it failed so
abbrev pub FailsToClose : Close → Group → DatabaseValue → Option (List Event) → Option (List Event) → Type 0
FailsToClose close group db old new = (events : List Event) × FailsBy close group db events × Grew old new events

-- nothing is held back
pub record IsEmpty (group : Group) : Type 0 where
  pub replies : group.replies.items ≡ []
  pub changes : group.changes ≡ []
  pub unchanged : group.changed ≡ false
