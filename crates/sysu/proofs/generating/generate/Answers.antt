-- The text told is the bank's; for want of memory nothing is told at all.
use Rattle.su_io.proofs.OneText.{tells_nothing}
use Rattle.sysu.proofs.Lines.{bank_told}
use Rattle.sysu.proofs.generating.generate.Goals as goal

pub returns-in-Ok-clause-ends : goal.returns-in-Ok-clause-ends
returns-in-Ok-clause-ends g c = bank_told c.args.n c.as_slice.result.now (rw c.as_slice.ensures c.in-Ok.ensures) _ _ c.tell.result c.tell.ensures

pub returns-in-Err-clause-ends : goal.returns-in-Err-clause-ends
returns-in-Err-clause-ends g c = tells_nothing _ _
