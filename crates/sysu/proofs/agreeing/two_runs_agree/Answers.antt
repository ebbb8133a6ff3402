-- How a run ends is one of few outcomes, which its files and words alone determine.
use Rattle.sysu.proofs.TwoRuns.{two_runs_agree}
use Rattle.sysu.proofs.agreeing.two_runs_agree.Goals as goal

pub returns : goal.returns
returns c = two_runs_agree
