-- What has been cut of a text is put together to that text again.
use Rattle.std.proofs.Common.{arith}
use Rattle.std.proofs.lemmas.Grind.{common_steps}
use Rattle.su_explained.proofs.Lossless.{cut_of-text}
use Rattle.su_explained.proofs.pieces.cut_text.Goals as goal

pub returns-clause-lossless : goal.returns-clause-lossless
returns-clause-lossless c = cut_of-text c.args.text.now c.loop-byte.cut (grind (arith, common_steps))
