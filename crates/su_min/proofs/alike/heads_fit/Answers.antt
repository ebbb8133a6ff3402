-- A mapping sends each symbol of the head to the one at its place, so a pair that can't go refutes it.
use Rattle.su_min.proofs.Likeness.{head_at}
use Rattle.su_min.proofs.alike.heads_fit.Goals as goal

pub returns-then-not-may_go : goal.returns-then-not-may_go
returns-then-not-may_go c = λ no symbols same.
    let xs = c.args.xs.now in let ys = c.args.ys.now in let i = c.loop-i.i in
    let low = c.loop-i-test.true in
    c.may_go.ensures (search (c.if-not-may_go.true)) symbols (head_at symbols xs ys i c.index-xs-i.result c.index-ys-i.result low same c.index-xs-i.is c.index-ys-i.is)
