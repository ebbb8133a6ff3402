-- The tableau minimised is a copy, so it equals the job's own.
use Rattle.std.proofs.Common.{◌∙◌}
use Rattle.su_answer.proofs.making.MinimisingJob.run.Goals as goal

pub returns-in-Ok : goal.returns-in-Ok
returns-in-Ok c = record { tableau = c.in-Ok.ensures.is ∙ c.in_ok-tableau.ensures; minimised = c.in-Ok.ensures.minimised }
