-- What is kept leads to itself.
use Rattle.std.proofs.Common.{[], refl}
use Rattle.su_talk.proofs.Starting.{leads_first}
use Rattle.su_talk.proofs.talking.keep.Goals as goal

pub returns-in-Ok-clause-kept : goal.returns-in-Ok-clause-kept
returns-in-Ok-clause-kept g c = leads_first (g.C.Company.keeps c.keep.new.self) c.args.db.now [] refl c.in-Ok.ensures.kept
