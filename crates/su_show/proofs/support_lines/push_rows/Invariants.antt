use Rattle.std.proofs.Common.{◌≡◌, ◌++◌, flat_map, take}
use Rattle.su_show.specs.Supports.{counted_line}
use Rattle.su_show.proofs.support_lines.push_rows.Given as goal

abbrev pub invariant-loop-counted : goal.invariant-loop-counted
invariant-loop-counted l = l.out.items ≡ l.fn.out.items ++ flat_map counted_line (take l.counted-index l.rows)
