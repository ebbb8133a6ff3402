-- A bit of the disjunction is set where a bit of either is.
use Rattle.su_map.proofs.Members.{or_either}
use Rattle.su_map.proofs.bits.either.Goals as goal

pub returns : goal.returns
returns c = or_either c.args.a c.args.b
