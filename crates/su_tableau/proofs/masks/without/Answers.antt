-- The complement of bit i alone clears that bit and keeps the others below 64.
use Rattle.su_tableau.proofs.Members.{without_same, without_out}
use Rattle.su_tableau.proofs.masks.without.Goals as goal

pub returns-clause-same : goal.returns-clause-same
returns-clause-same c = λ j ne. without_same c.args.set c.args.i j c.ranges.set.fits c.requires.small ne

pub returns-clause-out : goal.returns-clause-out
returns-clause-out c = without_out c.args.set c.args.i c.requires.small
