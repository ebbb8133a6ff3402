-- Two talks agree.
-- alike: databases of the same schema with the same rows, in whichever order; one, other: what happened in two talks
use Rattle.std.specs.Prelude.{◌≡◌, ◌⊎◌, Bool, List, Some}
use Rattle.su_io.specs.declared.files.File.{File as AFile}
use Rattle.su_once.specs.States.{AreAlike}
use Rattle.su_state.specs.DatabaseValue.{DatabaseValue}
use Rattle.su_talk.specs.declared.closes.Close.{Close}
use Rattle.su_talk.specs.declared.closes.Close.TheVariants.{Done, SomeRefused}
use Rattle.su_talk.specs.Events.{Event, come_of, told_of}
use Rattle.su_talk.specs.Talked.{IsTalked}

-- the input came to its end
abbrev pub HasFinished : Close → Type 0
HasFinished close = (close ≡ Done) ⊎ (close ≡ SomeRefused)

-- two talks over the same files, on databases that are alike, to which the same bytes came, however they were cut: they tell the same bytes, and end the same way
abbrev pub TwoTalksAgree : Type 0
TwoTalksAgree = (frames : Bool) (files : List AFile) (a b : DatabaseValue) (one other : List Event) (s t : Close) → AreAlike a b
    → IsTalked frames (Some files) a one s → IsTalked frames (Some files) b other t → HasFinished s → HasFinished t → come_of one ≡ come_of other
    → (told_of one ≡ told_of other) × (s ≡ t)
