use Rattle.std.proofs.Common.{◌≡◌, take}
use Rattle.su_dangling.specs.inside.Tasks.{variables_of}
use Rattle.su_dangling.proofs.tasks.variables.Given as goal

abbrev pub invariant-loop-a : goal.invariant-loop-a
invariant-loop-a l = l.cells ≡ variables_of (take l.a-index l.attributes)
