use Rattle.std.proofs.Common.{◌≡◌, map}
use Rattle.su_tableau.specs.declared.symbols.Sym.TheVariants.{Var}
use Rattle.su_schema.specs.SetMembers.{numbers_in}
use Rattle.su_advise.proofs.taking.edge_of.Given as goal

abbrev pub invariant-loop-a : goal.invariant-loop-a
invariant-loop-a l = l.cells ≡ map (λ a. Var a) (numbers_in l.fn.object l.a)
