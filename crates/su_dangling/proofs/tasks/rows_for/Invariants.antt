use Rattle.std.specs.List.{AllZip}
use Rattle.su_schema.specs.SetMembers.{numbers_in}
use Rattle.su_dangling.specs.inside.Tasks.{IsRowFor}
use Rattle.su_dangling.proofs.tasks.rows_for.Given as goal

abbrev pub invariant-loop-o : goal.invariant-loop-o
invariant-loop-o l = AllZip (IsRowFor l.schema) (numbers_in l.objects l.o) l.rows
