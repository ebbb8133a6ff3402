-- A dropped term has a cover, and the first kept one covers it too.
use Rattle.su_min.proofs.KeptTerms.{kept_or_covered}
use Rattle.su_min.proofs.laws.terms_are_kept_or_covered.Goals as goal

pub returns : goal.returns
returns c = λ terms r reduced i low. kept_or_covered terms r reduced i low
