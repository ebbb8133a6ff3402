-- The bytes written are read as the very certificate, and minimised terms and their trees are good.
use Rattle.su_refute.proofs.Certified.{written_is_good}
use Rattle.su_refute.proofs.laws.a_written_certificate_is_good.Goals as goal

pub returns : goal.returns
returns c = written_is_good
