use Rattle.std.proofs.Common.{◌≡◌, ◌++◌, drop}
use Rattle.su_draw.specs.Things.{things_from, things_of}
use Rattle.su_draw.proofs.things.all_things.Given as goal

abbrev pub invariant-loop-line : goal.invariant-loop-line
invariant-loop-line l = l.things ++ things_from l.line (drop l.line l.lines) ≡ things_of l.lines
