use Rattle.std.proofs.Common.{◌<◌, length, All}
use Rattle.su_check.proofs.guides.telling_in.Given as goal

abbrev pub invariant-loop-column : goal.invariant-loop-column
invariant-loop-column l = All (λ c. c < length l.alike) l.telling
