use Rattle.std.proofs.Common.{◌≡◌}
use Rattle.su_index.specs.inside.Notes.{digest_at}
use Rattle.su_index.proofs.notes.digest.Given as goal

abbrev pub invariant-loop-c : goal.invariant-loop-c
invariant-loop-c l = l.digest ≡ digest_at l.columns l.row l.c
