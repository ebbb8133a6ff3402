-- A row outside the mask has nothing to be noted, and a masked one is noted at each variable that it has, all of which have their places.
use Rattle.std.proofs.Common.{[], ◌∙◌, sym, subst, Contains, true≢false}
use Rattle.su_tableau.specs.declared.symbols.Sym.TheVariants.{Var}
use Rattle.su_map.specs.inside.Targets.{IsPlain}
use Rattle.su_map.proofs.tables.note_masked.Goals as goal

pub note_row-requires-clause-below : goal.note_row-requires-clause-below
note_row-requires-clause-below c = λ k has. c.requires.symbols.rows c.args.i [] c.requires.row k (subst (λ r. Contains r (Var k)) c.row.ensures.is has)

pub returns-then-not-has-clause-noted : goal.returns-then-not-has-clause-noted
returns-then-not-has-clause-noted c = λ one. absurd (true≢false (sym (c.has.ensures.1 one) ∙ c.if-not-has.true))

pub returns-then-not-has-clause-plain : goal.returns-then-not-has-clause-plain
returns-then-not-has-clause-plain c = λ one. absurd (true≢false (sym (c.has.ensures.1 one) ∙ c.if-not-has.true))

pub returns-clause-noted : goal.returns-clause-noted
returns-clause-noted c = λ one k has. c.note_row.ensures.noted k (subst (λ r. Contains r (Var k)) (sym c.row.ensures.is) has)

pub returns-clause-plain : goal.returns-clause-plain
returns-clause-plain c = λ one no. subst IsPlain c.row.ensures.is (c.note_row.ensures.plain no)
