use Rattle.std.proofs.Common.{◌≡◌, ◌++◌, take}
use Rattle.su_lex.specs.Names.{names_symbols}
use Rattle.su_query.proofs.pushing.push_names.Given as goal

abbrev pub invariant-loop-i : goal.invariant-loop-i
invariant-loop-i l = l.out ≡ l.fn.out ++ names_symbols (take l.i l.names)
