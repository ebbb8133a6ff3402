use Rattle.std.proofs.Common.{◌≡◌, ◌++◌, drop}
use Rattle.su_show.specs.RowLines.{row_lines}
use Rattle.su_show.proofs.tableau_lines.push_rows.Given as goal

abbrev pub invariant-loop-row : goal.invariant-loop-row
invariant-loop-row l = l.out.items ++ row_lines l.schema l.resolved l.term.tableau l.row (drop l.row l.term.origins) ≡ l.fn.out.items ++ row_lines l.schema l.resolved l.term.tableau 0 l.term.origins
