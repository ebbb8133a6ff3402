-- What a call that was to add to a list has added where it was refused.
-- front: the first elements of a list, none or all of them too
use Rattle.std.specs.Prelude.{◌≡◌, List, ◌++◌}

-- `new` is `old` with a front of `all` behind it, maybe nothing of it, maybe the whole
pub record AddsFront {X : Type 0} (old new all : List X) : Type 0 where
  pub front : List X
  pub rest : List X
  pub whole : all ≡ front ++ rest
  pub added : new ≡ old ++ front
