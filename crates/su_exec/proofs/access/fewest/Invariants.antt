use Rattle.std.proofs.Common.{◌≡◌, ◌<◌, [], length, get_or}
use Rattle.std.specs.Prelude.{IfSome}
use Rattle.su_exec.proofs.access.fewest.Given as goal

abbrev pub invariant-loop-e : goal.invariant-loop-e
invariant-loop-e l = IfSome l.best (λ r. (r.0 < length l.edges) × (r.1 < length (get_or l.edges r.0 (record { vars = []; rows = [] })).vars) × (get_or (get_or l.edges r.0 (record { vars = []; rows = [] })).vars r.1 0 ≡ l.k))
