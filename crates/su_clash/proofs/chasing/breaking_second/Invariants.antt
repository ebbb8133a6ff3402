use Rattle.std.proofs.Common.{ℕ, ◌<◌}
use Rattle.su_clash.specs.inside.Renames.{BreaksBy}
use Rattle.su_clash.proofs.chasing.breaking_second.Given as goal

abbrev pub invariant-loop-second : goal.invariant-loop-second
invariant-loop-second l = (k : ℕ) → k < l.second → ¬ BreaksBy l.fds l.rows l.renames (record { fd = l.fd; first = l.first; second = k })
