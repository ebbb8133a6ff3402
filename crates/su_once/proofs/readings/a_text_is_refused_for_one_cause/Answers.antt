-- The causes exclude each other: no form, too deep, or the limit passed first.
use Rattle.su_once.proofs.OneOutcome.{one_refusal}
use Rattle.su_once.proofs.readings.a_text_is_refused_for_one_cause.Goals as goal

pub returns : goal.returns
returns c = one_refusal
