use Rattle.std.proofs.Common.{◌≡◌, map, take}
use Rattle.su_classes.specs.inside.Symbols.{symbol_number}
use Rattle.su_chase.proofs.numbering.items_of.Given as goal

abbrev pub invariant-loop-x : goal.invariant-loop-x
invariant-loop-x l = l.items ≡ map (symbol_number l.constants) (take l.x-index l.row)
