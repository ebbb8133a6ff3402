use Rattle.std.proofs.Common.{◌≡◌, ◌++◌, flat_map}
use Rattle.std.specs.List.{range_with_len}
use Rattle.su_show.specs.TableauLines.{compare_line}
use Rattle.su_show.proofs.tableau_lines.push_compares.Given as goal

abbrev pub invariant-loop-number : goal.invariant-loop-number
invariant-loop-number l = l.out.items ≡ l.fn.out.items ++ flat_map (compare_line l.schema l.resolved l.tableau) (range_with_len 0 l.number)
