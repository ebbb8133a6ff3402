-- The things are those of the lines one after another, so each drawn word has exactly one.
use Rattle.std.proofs.Common.{arith}
use Rattle.std.proofs.lemmas.Grind.{common_steps}
use Rattle.su_draw.proofs.Exactly.{stand_once}
use Rattle.su_draw.proofs.things.all_things.Goals as goal

pub returns-clause-once : goal.returns-clause-once
returns-clause-once c = stand_once c.args.lines.now c.loop-line.things (grind (arith, common_steps))
