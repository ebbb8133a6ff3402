-- Steps whose dependency and rows are there.
-- No public contract cites this module.
use Rattle.std.specs.Prelude.{◌<◌, List, length}
use Rattle.su_state.specs.DatabaseValue.{DatabaseValue}
use Rattle.su_clash.specs.declared.members.Member.{Member}
use Rattle.su_clash.specs.declared.steps.Step.{Step}

-- the step names a dependency and two of the members
pub record IsStep (db : DatabaseValue) (members : List Member) (s : Step) : Type 0 where
  pub fd : s.fd < length db.schema.fds
  pub first : s.first < length members
  pub second : s.second < length members
