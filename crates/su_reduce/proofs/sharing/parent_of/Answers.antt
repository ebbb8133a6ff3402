-- No number so far is a parent, and the others are below 64; so at the end there is none.
use Rattle.std.proofs.Common.{true≢false, sym, ◌∙◌, arith}
use Rattle.su_reduce.proofs.MeetingSets.{no_parent}
use Rattle.su_reduce.proofs.sharing.parent_of.Goals as goal

pub returns : goal.returns
returns c =
    no_parent c.args.sets.now c.args.others
    (λ alone. true≢false (sym (c.is_alone.ensures.1 alone) ∙ c.if-is_alone.false))
    (λ i h. let l = c.requires i h.0 in c.loop-p.invariant i (omega (arith, l)) h)
