-- Each symbol of the row is below the number of names, so it has one.
use Rattle.std.proofs.Common.{sym, ◌∙◌}
use Rattle.std.proofs.lemmas.List.{get_or_default}
use Rattle.su_tableau.specs.declared.symbols.Sym.TheVariants.{Var}
use Rattle.su_chase.proofs.chasing.named.Goals as goal

pub name_of-requires : goal.name_of-requires
name_of-requires c = λ k e. c.requires k (c.loop-x.x-index, c.loop-x-test.true, sym (c.x-item.is ∙ get_or_default c.args.symbols.now c.loop-x.x-index c.x-item.result (Var k) c.loop-x-test.true) ∙ e)
