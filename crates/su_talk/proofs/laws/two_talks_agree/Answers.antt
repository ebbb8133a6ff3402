-- The input is cut in one way, and each statement has one answer on databases that are alike.
use Rattle.su_talk.proofs.OneTalk.{two_talks_agree}
use Rattle.su_talk.proofs.laws.two_talks_agree.Goals as goal

pub returns : goal.returns
returns c = two_talks_agree
