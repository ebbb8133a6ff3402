use Rattle.std.proofs.Common.{◌≡◌, ◌*◌, map, take}
use Rattle.su_steps.specs.PairSymbols.{place_symbol}
use Rattle.su_steps.specs.inside.Numbers.{class_name}
use Rattle.su_steps.proofs.building.output_symbols.Given as goal

abbrev pub invariant-loop-i : goal.invariant-loop-i
invariant-loop-i l = l.symbols ≡ map (λ i. class_name (l.variables * l.classes.width) l.classes (place_symbol l.classes.width l.places i)) (take l.i-index l.outputs)
