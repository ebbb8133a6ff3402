use Rattle.std.proofs.Common.{◌≡◌, ◌++◌, take, All}
use Rattle.su_csv.specs.Written.{text_of}
use Rattle.su_csv.specs.inside.Writers.{IsStored}
use Rattle.su_csv.specs.inside.Writers.{IsIdle, text_so_far}
use Rattle.su_csv.proofs.writing.put_all.Given as goal

abbrev pub invariant-loop-row : goal.invariant-loop-row
invariant-loop-row l = record {
  idle : IsIdle l.writer;
  text : text_so_far l.writer ≡ text_so_far l.fn.writer ++ text_of l.header (take l.row-index l.rows);
  stored : All (All IsStored) (take l.row-index l.rows);
}
