-- Each round loses only rows that the checks exclude, so all rounds together do.
use Rattle.su_exec.specs.inside.Checks.{all_hold}
use Rattle.su_exec.proofs.CutEdges.{lost_on, none_lost}
use Rattle.su_exec.proofs.narrowing.narrow.Goals as goal

pub loop-init : goal.loop-init
loop-init c = none_lost (all_hold c.args.codes.now c.args.checks.now) c.args.edges.now.items

pub loop-preserved : goal.loop-preserved
loop-preserved c = lost_on (all_hold c.args.codes.now c.args.checks.now) c.args.edges.now.items c.loop.edges.items c.cut_by_all.new.edges.items c.loop.invariant c.in_ok-cut_by_all.ensures

pub returns-then-count-before : goal.returns-then-count-before
returns-then-count-before c = lost_on (all_hold c.args.codes.now c.args.checks.now) c.args.edges.now.items c.loop.edges.items c.cut_by_all.new.edges.items c.loop.invariant c.in_ok-cut_by_all.ensures
