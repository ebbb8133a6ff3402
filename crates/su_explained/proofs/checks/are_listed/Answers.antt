-- The first word decides whether the others are looked at, as in the definition.
use Rattle.std.proofs.Common.{rules}
use Rattle.su_explained.specs.Checks.{listed}
use Rattle.su_explained.proofs.checks.are_listed.Goals as goal

pub returns-in-empty : goal.returns-in-empty
unfolding listed
returns-in-empty c = search rules

pub returns-then-starts_with : goal.returns-then-starts_with
unfolding listed
returns-then-starts_with c = search rules

pub returns-else-starts_with : goal.returns-else-starts_with
unfolding listed
returns-else-starts_with c = search rules
