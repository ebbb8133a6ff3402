use Rattle.std.proofs.Common.{◌≡◌, ◌++◌, map, take}
use Rattle.su_check.specs.Grammar.{row_line}
use Rattle.su_refute.specs.Written.{lines_text}
use Rattle.su_refute.proofs.writing.push_rows.Given as goal

abbrev pub invariant-loop-i : goal.invariant-loop-i
invariant-loop-i l = l.out.items ≡ l.fn.out.items ++ lines_text (map row_line (take l.i l.t.rows))
