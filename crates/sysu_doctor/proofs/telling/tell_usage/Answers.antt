-- What is told is the usage line of this program, or a front of it.
use Rattle.su_io.proofs.OneText.{usage_told}
use Rattle.sysu_doctor.proofs.telling.tell_usage.Goals as goal

pub returns-clause-ends : goal.returns-clause-ends
returns-clause-ends g c = usage_told _ _ _ c.tell.result (rw c.as_bytes.ensures.value at c.tell.ensures)
