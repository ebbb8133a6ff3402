-- The one row that comes in is made of the pair, which passes the tests; so it is one that the join has.
use Rattle.std.proofs.Common.{◌∙◌, sym, subst, inl, inr, ⊎_elim}
use Rattle.su_exec.specs.inside.Plans.{IsMade}
use Rattle.su_exec.proofs.joins.add_pair.Goals as goal

pub returns-in_err-add-clause-only : goal.returns-in_err-add-clause-only
returns-in_err-add-clause-only c r there = ⊎_elim
    (λ old. inl old)
    (λ new. inr (subst (IsMade c.args.codes.now c.args.plan.now c.args.row.now c.args.other.now) (sym c.in_ok-make_row.ensures ∙ sym c.deref.ensures.value ∙ new) (c.matches.ensures.0 c.if-not-matches.false)))
    (c.add.ensures.only r there)

pub returns-clause-only : goal.returns-clause-only
returns-clause-only c r there = ⊎_elim
    (λ old. inl old)
    (λ new. inr (subst (IsMade c.args.codes.now c.args.plan.now c.args.row.now c.args.other.now) (sym c.in_ok-make_row.ensures ∙ sym c.deref.ensures.value ∙ new) (c.matches.ensures.0 c.if-not-matches.false)))
    (c.add.ensures.only r there)
