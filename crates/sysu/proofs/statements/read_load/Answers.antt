-- The hand-over reads nothing, so how the file is read behind it is how the load's file is read.
use Rattle.std.proofs.Common.{ap}
use Rattle.su_io.specs.Moments.{Moment}
use Rattle.sysu.proofs.HandedFiles.{begins_over, loaded}
use Rattle.sysu.proofs.statements.read_load.Goals as goal

pub returns-in-Ok-clause-ends : goal.returns-in-Ok-clause-ends
returns-in-Ok-clause-ends g c =
    loaded c.args.path c.args.outside.now c.flush.new.self c.read.new.self (ap (λ (m : Moment). m.files) c.in-Ok.ensures.ok.only.rest) (ap (λ (m : Moment). m.reads) c.in-Ok.ensures.ok.only.rest)
    (begins_over c.args.path c.args.outside.now c.flush.new.self c.read.new.self c.in-Ok.ensures.ok c.read.ensures.rest) c.read.result c.read.ensures.ends
