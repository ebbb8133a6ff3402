-- Where all checks hold each of them does, so what one excludes may go.
use Rattle.std.proofs.Common.{rules, ◌<◌, List, length}
use Rattle.su_exec.specs.declared.checks.Check.{Check}
use Rattle.su_exec.specs.inside.Checks.{all_hold}
use Rattle.su_exec.proofs.CutEdges.{holds_at, lost_on}
use Rattle.su_exec.proofs.narrowing.cut_by_all.Goals as goal

pub loop-check-preserved : goal.loop-check-preserved
loop-check-preserved c =
    let values = c.args.codes.now in
    let checks : List Check = c.args.checks.now in
    let at = c.loop-check.check-index in
    let low : at < length checks = search (rules, c.loop-check-test.true) in
    let cut = c.in_ok-cut_by_check.ensures in
    lost_on (all_hold values checks) c.args.edges.now.items c.loop-check.edges.items c.cut_by_check.new.edges.items c.loop-check.invariant
    (record { fewer = cut.fewer; stays = λ v p f. cut.stays v (holds_at values checks at _ v low p) f; len = cut.len; vars = cut.vars })
