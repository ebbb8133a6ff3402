-- The run comes to an end, and the hand-over leaves it so or fails by itself.
use Rattle.su_io.proofs.Programs.{handed_over}
use Rattle.sysu_doctor.specs.Runs.{Comes}
use Rattle.sysu_doctor.specs.Words.{named}
use Rattle.sysu_doctor.proofs.DoctorRuns.{comes_on, comes_over}
use Rattle.sysu_doctor.proofs.top.run.Goals as goal

pub returns-clause-ends : goal.returns-clause-ends
returns-clause-ends g c =
    handed_over (Comes c.args.words.now) (comes_on (named c.args.words.now)) (comes_over (named c.args.words.now)) c.args.outside.now _ _ c.hand_over.ensures.front c.run_words-came.result c.run_words-came.ensures.comes c.hand_over.result c.hand_over.ensures.ends
