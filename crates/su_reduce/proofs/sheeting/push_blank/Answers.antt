-- The blank row is the one more row, whatever it holds.
use Rattle.su_reduce.proofs.sheeting.push_blank.Goals as goal

pub returns : goal.returns
returns c = (c.deref.result.now, λ i. record { width = c.in_ok-push.ensures.width i; rows = c.in_ok-push.ensures.ok i })
