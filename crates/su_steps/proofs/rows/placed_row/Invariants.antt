use Rattle.std.proofs.Common.{◌≡◌, map}
use Rattle.std.specs.List.{range_with_len}
use Rattle.su_tableau.specs.declared.symbols.Sym.TheVariants.{Var}
use Rattle.su_classes.specs.inside.Symbols.{symbol_number}
use Rattle.su_steps.specs.PairSymbols.{pair}
use Rattle.su_steps.proofs.rows.placed_row.Given as goal

abbrev pub invariant-loop-a : goal.invariant-loop-a
invariant-loop-a l = l.cells ≡ map (λ a. symbol_number l.constants (Var (pair l.width l.origin.variable a))) (range_with_len 0 l.a)
