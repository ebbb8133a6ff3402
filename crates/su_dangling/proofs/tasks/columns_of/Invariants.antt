use Rattle.std.proofs.Common.{take}
use Rattle.su_dangling.specs.inside.Tasks.{AreColumnsOf}
use Rattle.su_dangling.proofs.tasks.columns_of.Given as goal

abbrev pub invariant-loop-a : goal.invariant-loop-a
invariant-loop-a l = AreColumnsOf l.schema l.object (take l.a-index l.attributes) l.columns
