use Rattle.std.proofs.Common.{◌≡◌, map, take}
use Rattle.su_sql.specs.TaskJoins.{operand_of}
use Rattle.su_sql.proofs.linking.operands_of.Given as goal

abbrev pub invariant-loop-symbol : goal.invariant-loop-symbol
invariant-loop-symbol l = l.operands ≡ map (operand_of l.cells) (take l.symbol-index l.symbols)
