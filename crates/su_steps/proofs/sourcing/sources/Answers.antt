-- The essential columns are the row's, so the objects that have them are its sources.
use Rattle.su_steps.proofs.sourcing.sources.Goals as goal

pub returns : goal.returns
returns c = c.sources_within.ensures.sources c.args.t.now c.args.mask c.args.row c.essential.ensures
