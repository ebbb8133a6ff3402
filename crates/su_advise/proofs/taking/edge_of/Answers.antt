-- The cells are the attributes below the next, as variables.
use Rattle.std.proofs.Common.{ℕ, ◌≡◌, ◌∙◌, [], ap, map, arith}
use Rattle.std.specs.FinSet.{contains}
use Rattle.su_base.proofs.PassingNumbers.{images_if}
use Rattle.su_schema.specs.SetMembers.{numbers_in}
use Rattle.su_tableau.specs.declared.symbols.Sym.TheVariants.{Var}
use Rattle.su_advise.proofs.taking.edge_of.Goals as goal

pub loop-a-preserved : goal.loop-a-preserved
loop-a-preserved c = images_if (λ a. Var a) (contains c.args.object) c.loop-a.a _ [] _ _ c.loop-a.invariant c.contains.ensures c.in_ok-push_if.ensures.ok

pub returns : goal.returns
returns c = let end : c.loop-a.a ≡ 128 = omega arith in c.loop-a.invariant ∙ ap (λ (n : ℕ). map (λ a. Var a) (numbers_in c.args.object n)) end
