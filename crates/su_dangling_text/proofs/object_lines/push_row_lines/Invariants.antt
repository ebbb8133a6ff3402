use Rattle.std.proofs.Common.{◌≡◌, ◌++◌, take, flat_map}
use Rattle.su_dangling_text.specs.Lines.{row_line}
use Rattle.su_dangling_text.proofs.object_lines.push_row_lines.Given as goal

abbrev pub invariant-loop-row : goal.invariant-loop-row
invariant-loop-row l = l.out.items ≡ l.fn.out.items ++ flat_map row_line (take l.row-index l.rows)
