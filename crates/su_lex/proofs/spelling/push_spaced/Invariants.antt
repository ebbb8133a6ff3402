use Rattle.su_lex.proofs.Printed.{MoreBehind}
use Rattle.su_lex.proofs.spelling.push_spaced.Given as goal

abbrev pub invariant-loop-symbol : goal.invariant-loop-symbol
invariant-loop-symbol l = MoreBehind l.symbols l.symbol-index l.fn.out.items l.out.items l.tight
