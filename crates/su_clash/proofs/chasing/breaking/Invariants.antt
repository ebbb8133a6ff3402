use Rattle.std.proofs.Common.{ℕ, ◌<◌}
use Rattle.su_clash.specs.inside.Renames.{BreaksBy}
use Rattle.su_clash.proofs.chasing.breaking.Given as goal

abbrev pub invariant-loop-fd : goal.invariant-loop-fd
invariant-loop-fd l = (i j k : ℕ) → i < l.fd → ¬ BreaksBy l.fds l.rows l.renames (record { fd = i; first = j; second = k })
