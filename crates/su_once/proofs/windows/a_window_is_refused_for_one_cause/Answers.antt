-- A clash shows that the members are few, and equal rows clash in one way.
use Rattle.su_once.proofs.Windowed.{one_window_refusal}
use Rattle.su_once.proofs.windows.a_window_is_refused_for_one_cause.Goals as goal

pub returns : goal.returns
returns c = one_window_refusal
