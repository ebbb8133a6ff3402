-- Going up and going down each leave what the body gives the needed variables.
use Rattle.su_exec.proofs.Ears.{leaves_same, leaves_trans}
use Rattle.su_exec.proofs.reducing.reduce.Goals as goal

pub returns : goal.returns
returns c =
    let needed = c.args.needed.now in
    let start = c.args.body.edges.items in
    let first = c.args.body.checks.items in
    let up = c.go_up.new.body.edges.items in
    let checks = c.go_up.new.body.checks.items in
    let down = c.go_down.new.edges.items in
    leaves_trans needed start up down first checks checks c.in_ok-go_up.ensures
    (leaves_same needed up down checks c.in_ok-go_down.ensures.same c.in_ok-go_down.ensures.length c.in_ok-go_down.ensures.vars)
