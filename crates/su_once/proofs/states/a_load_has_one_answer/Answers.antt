-- The inserts before the first refused one are the same, so the same one is refused.
use Rattle.su_once.proofs.Loaded.{one_load}
use Rattle.su_once.proofs.states.a_load_has_one_answer.Goals as goal

pub returns : goal.returns
returns c = one_load
