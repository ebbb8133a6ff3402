-- A part comes behind its lead, and the others behind theirs.
use Rattle.std.proofs.Common.{arith}
use Rattle.std.proofs.lemmas.Grind.{common_steps}
use Rattle.su_sql.proofs.Led.{led-first}
use Rattle.su_sql.proofs.parts.push_led.Goals as goal

pub loop-part-preserved : goal.loop-part-preserved
loop-part-preserved c = grind (arith, common_steps, led-first)
