use Rattle.std.proofs.Common.{◌≡◌, ◌<◌, length}
use Rattle.std.specs.Prelude.{All}
use Rattle.su_classes.proofs.worklist.Worklist.new.Given as goal

abbrev pub invariant-loop-item : goal.invariant-loop-item
invariant-loop-item l = record {
  marks_count : length l.marks.items ≡ l.items;
  next_count : length l.next.items ≡ l.items;
  marks : All (λ m. m < l.items) l.marks.items;
  next : All (λ n. n < l.items) l.next.items;
}
