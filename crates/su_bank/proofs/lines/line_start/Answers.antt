-- No byte behind the place is a line feed, and the place is at the front or behind one; so what is behind is the last line.
use Rattle.std.proofs.Common.{arith, eq-eqb}
use Rattle.su_bank.proofs.LastLine.{starts_at}
use Rattle.su_bank.proofs.lines.line_start.Goals as goal

pub returns-else-text-start-ne10 : goal.returns-else-text-start-ne10
returns-else-text-start-ne10 c =
    starts_at c.args.text.now c.loop-start.start c.loop-start.invariant.within c.loop-start.invariant.behind (λ some. eq-eqb _ 10 c.if-text-start-ne10.false)

pub returns-after-loop-start : goal.returns-after-loop-start
returns-after-loop-start c =
    starts_at c.args.text.now c.loop-start.start c.loop-start.invariant.within c.loop-start.invariant.behind (λ some. grind (arith, some, c.loop-start-test.false))
