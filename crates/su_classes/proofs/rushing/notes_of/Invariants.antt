use Rattle.std.proofs.Common.{◌≡◌, length}
use Rattle.su_classes.proofs.rushing.notes_of.Given as goal

abbrev pub invariant-loop : goal.invariant-loop
invariant-loop l = length l.notes ≡ l.counter
