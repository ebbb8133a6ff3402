use Rattle.std.proofs.Common.{◌≡◌, ◌++◌, map, take}
use Rattle.su_lex.specs.Wordings.{kind_symbol}
use Rattle.su_refute.proofs.symbols.push_kinds.Given as goal

abbrev pub invariant-loop-kind : goal.invariant-loop-kind
invariant-loop-kind l = l.out ≡ l.fn.out ++ map kind_symbol (take l.kind-index l.kinds)
