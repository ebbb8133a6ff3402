-- Bytes spell at most one certificate, and its first fault is settled.
use Rattle.su_check.proofs.OneVerdict.{one_verdict}
use Rattle.su_check.proofs.laws.bytes_have_one_verdict.Goals as goal

pub returns : goal.returns
returns c = one_verdict
