-- The kept rows can't be mapped into fewer, so no tableau with the same answers has fewer rows.
use Rattle.su_min.proofs.Least.{kept_least_part}
use Rattle.su_min.proofs.minimal.minimise.Goals as goal

pub returns-in-Ok-clause-least : goal.returns-in-Ok-clause-least
returns-in-Ok-clause-least c = λ kinds typed. kept_least_part kinds c.args.t c.in-Ok.mask c.keeps_its_rules.ensures.valid c.in-Ok.ensures.kept typed
