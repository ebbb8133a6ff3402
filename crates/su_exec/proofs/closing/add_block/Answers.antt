-- Whether the first meets the second or the third, the three give the same; and a first without rows gives nothing.
use Rattle.std.proofs.Common.{◌∙◌, sym, inl, inr, ⊎_elim}
use Rattle.su_exec.proofs.Triples.{none_given, turned_among, turned_given}
use Rattle.su_exec.proofs.closing.add_block.Goals as goal

pub returns-then-len-eq0-clause-all : goal.returns-then-len-eq0-clause-all
returns-then-len-eq0-clause-all c = λ r x. absurd (none_given c.args.vars.now c.args.three.now.first.now c.args.three.now.second.now c.args.three.now.third.now r (sym c.len.ensures ∙ c.if-len-eq0.true) x)

pub add_three-requires-2-clause-within : goal.add_three-requires-2-clause-within
add_three-requires-2-clause-within c = λ k h. turned_among c.args.three.now.first.now c.args.three.now.second.now c.args.three.now.third.now k (c.requires.within k h)

pub returns-clause-only : goal.returns-clause-only
returns-clause-only c = λ r h. ⊎_elim (λ o. inl o) (λ x. inr (turned_given c.args.vars.now c.args.three.now.first.now c.args.three.now.third.now c.args.three.now.second.now r x)) (c.in_ok-add_three-2.ensures.only r h)

pub returns-clause-all : goal.returns-clause-all
returns-clause-all c = λ r x. c.in_ok-add_three-2.ensures.all r (turned_given c.args.vars.now c.args.three.now.first.now c.args.three.now.second.now c.args.three.now.third.now r x)
