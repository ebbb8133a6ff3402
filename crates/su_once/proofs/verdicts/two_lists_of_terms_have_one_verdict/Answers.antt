-- All terms are settled or a first one isn't; reasons and frozen rows are unique.
use Rattle.su_once.proofs.Compared.{one_verdict}
use Rattle.su_once.proofs.verdicts.two_lists_of_terms_have_one_verdict.Goals as goal

pub returns : goal.returns
returns c = one_verdict
