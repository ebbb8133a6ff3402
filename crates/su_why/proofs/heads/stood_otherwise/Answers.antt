-- At none of the places so far the variable stands otherwise, so one at which it does is the first such.
use Rattle.std.proofs.Common.{sym, ◌∙◌, refl, arith}
use Rattle.std.proofs.lemmas.Bool.{false≢true, true≢false}
use Rattle.su_why.proofs.Clashes.{not_stood_more, none_stood}
use Rattle.su_why.proofs.heads.stood_otherwise.Goals as goal

pub returns-then-stands_otherwise : goal.returns-then-stands_otherwise
returns-then-stands_otherwise c =
    let w = c.stands_otherwise.ensures.0 c.if-stands_otherwise.true in
    (λ t. record { earlier = c.loop-i.i; before = c.loop-i-test.true; stood = w.0; differ = w.1 }, λ s. refl)

pub loop-i-preserved : goal.loop-i-preserved
loop-i-preserved c =
    not_stood_more c.args.outputs.now c.args.row.now c.args.j c.args.k c.loop-i.i c.loop-i.invariant
    (λ w. true≢false (sym (c.stands_otherwise.ensures.1 w) ∙ c.if-stands_otherwise.false))

pub returns : goal.returns
returns c = (
  λ f. absurd (false≢true f),
  λ s. absurd (none_stood c.args.outputs.now c.args.row.now c.args.j c.args.k c.loop-i.i (omega arith) c.loop-i.invariant s),
)
