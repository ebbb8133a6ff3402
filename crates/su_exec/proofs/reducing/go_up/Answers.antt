-- Each ear leaves what the body gives the needed variables, so all of them do.
use Rattle.su_exec.proofs.Ears.{leaves_refl, leaves_trans}
use Rattle.su_exec.proofs.reducing.go_up.Goals as goal

pub loop-link-init : goal.loop-link-init
loop-link-init c = leaves_refl c.args.needed.now c.args.body.now.edges.items c.args.body.now.checks.items

pub loop-link-preserved : goal.loop-link-preserved
loop-link-preserved c =
    leaves_trans c.args.needed.now c.args.body.now.edges.items c.loop-link.body.edges.items c.follow.new.body.edges.items c.args.body.now.checks.items c.loop-link.body.checks.items c.follow.new.body.checks.items c.loop-link.invariant
    c.in_ok-gone.ensures
