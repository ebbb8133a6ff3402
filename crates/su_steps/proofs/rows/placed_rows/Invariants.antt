use Rattle.std.proofs.Common.{◌≡◌, map, take}
use Rattle.su_steps.specs.inside.Numbers.{placed_of}
use Rattle.su_steps.proofs.rows.placed_rows.Given as goal

abbrev pub invariant-loop-origin : goal.invariant-loop-origin
invariant-loop-origin l = l.rows ≡ map (placed_of l.schema l.constants) (take l.origin-index l.origins)
