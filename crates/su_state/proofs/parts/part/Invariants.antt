use Rattle.std.proofs.Common.{◌≡◌, take}
use Rattle.su_state.specs.inside.Parts.{part_of}
use Rattle.su_state.proofs.parts.part.Given as goal

abbrev pub invariant-loop-c : goal.invariant-loop-c
invariant-loop-c l = l.part ≡ part_of l.columns (take l.c l.row)
