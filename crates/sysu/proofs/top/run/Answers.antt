-- The hand-over leaves what the run came to, or fails and so has its own cause; the headline and the completeness follow from how the run ends and from what is proved of queries.
use Rattle.su_io.proofs.Programs.{handed_over}
use Rattle.sysu.specs.Statuses.{Comes}
use Rattle.sysu.proofs.Completeness.{complete}
use Rattle.sysu.proofs.HandOvers.{comes_on, comes_over}
use Rattle.sysu.proofs.Promised.{headline_of}
use Rattle.sysu.proofs.top.run.Goals as goal

pub returns-clause-ends : goal.returns-clause-ends
returns-clause-ends g c =
    handed_over (Comes c.args.words.now) (comes_on c.args.words.now) (comes_over c.args.words.now) c.args.outside.now _ _ c.hand_over.ensures.front c.run_words-came.result c.run_words-came.ensures.comes c.hand_over.result c.hand_over.ensures.ends

pub returns-clause-headline : goal.returns-clause-headline
returns-clause-headline g c = headline_of c.queries_are_answered.ensures c.args.words.now _ _ c.hand_over.result (returns-clause-ends g c).ends

pub returns-clause-complete : goal.returns-clause-complete
returns-clause-complete g c = complete c.args.words.now _ _ c.hand_over.result (returns-clause-ends g c).ends
