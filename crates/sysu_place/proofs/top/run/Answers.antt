-- What the words come to is left so by the hand-over, unless this fails.
use Rattle.su_io.proofs.Programs.{handed_over}
use Rattle.sysu_place.specs.Ends.{Comes}
use Rattle.sysu_place.specs.Words.{named}
use Rattle.sysu_place.proofs.Places.{comes_on, comes_over}
use Rattle.sysu_place.proofs.top.run.Goals as goal

pub returns-clause-ends : goal.returns-clause-ends
returns-clause-ends g c =
    handed_over (Comes c.args.words.now) (comes_on (named c.args.words.now)) (comes_over (named c.args.words.now)) c.args.outside.now _ _ c.hand_over.ensures.front c.run_words-came.result c.run_words-came.ensures.comes c.hand_over.result c.hand_over.ensures.ends
