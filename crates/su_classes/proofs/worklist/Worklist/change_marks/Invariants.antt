use Rattle.std.proofs.Common.{◌<◌, length}
use Rattle.su_classes.specs.inside.Worklists.{IsSame}
use Rattle.su_classes.proofs.worklist.Worklist.change_marks.Given as goal

abbrev pub invariant-loop : goal.invariant-loop
invariant-loop l = record {
  same : IsSame l.fn.self l.self;
  member : l.member < length l.self.next.items;
}
