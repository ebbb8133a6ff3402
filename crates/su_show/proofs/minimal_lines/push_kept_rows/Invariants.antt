use Rattle.std.proofs.Common.{◌≡◌, ◌++◌}
use Rattle.su_map.specs.Lists.{numbers_of}
use Rattle.su_lex.specs.Wordings.{numbers_text}
use Rattle.su_show.proofs.minimal_lines.push_kept_rows.Given as goal

abbrev pub invariant-loop-row : goal.invariant-loop-row
invariant-loop-row l = l.out.items ≡ l.fn.out.items ++ numbers_text (numbers_of l.minimal.mask l.row)
