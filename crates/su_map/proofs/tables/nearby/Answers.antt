-- A masked row's variables are below the count, and the rows noted at those outside the head are what is near; for another row nothing is asked.
use Rattle.std.proofs.Common.{[], sym, subst, Contains}
use Rattle.su_tableau.specs.declared.symbols.Sym.TheVariants.{Var}
use Rattle.su_map.proofs.tables.nearby.Goals as goal

pub rows_near-requires-clause-below : goal.rows_near-requires-clause-below
rows_near-requires-clause-below c = λ k has. c.requires.symbols.rows c.args.i [] c.requires.row k (subst (λ r. Contains r (Var k)) c.row.ensures.is has)

pub returns : goal.returns
returns c = λ one k q has free ne b.
    c.rows_near.ensures k q (subst (λ r. Contains r (Var k)) (sym c.row.ensures.is) has) (λ inside. free (subst (λ r. Contains r (Var k)) c.head.ensures inside)) ne b
