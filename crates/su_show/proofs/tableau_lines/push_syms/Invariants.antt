use Rattle.std.proofs.Common.{◌≡◌, ◌++◌, take}
use Rattle.su_show.specs.RowLines.{symbols_text}
use Rattle.su_show.proofs.tableau_lines.push_syms.Given as goal

abbrev pub invariant-loop-symbol : goal.invariant-loop-symbol
invariant-loop-symbol l = l.out.items ≡ l.fn.out.items ++ symbols_text l.schema l.resolved (take l.symbol-index l.symbols)
