use Rattle.std.proofs.Common.{ℕ, ◌<◌}
use Rattle.su_clash.specs.inside.Renames.{BreaksBy}
use Rattle.su_clash.proofs.chasing.breaking_rows.Given as goal

abbrev pub invariant-loop-first : goal.invariant-loop-first
invariant-loop-first l = (j k : ℕ) → j < l.first → ¬ BreaksBy l.fds l.rows l.renames (record { fd = l.fd; first = j; second = k })
