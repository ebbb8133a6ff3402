-- A check with both its terms in the rows is the test of them, and moves from the one list to the other; else it is left, and says of the valuation what it said.
use Rattle.std.proofs.Common.{◌&&◌, map, sym, ap, ◌∙◌}
use Rattle.std.proofs.Math.Bool.{and_assoc}
use Rattle.su_exec.specs.inside.Checks.{all_hold, all_pass, check_holds, check_vars, test_passes}
use Rattle.su_exec.specs.inside.Edges.{has}
use Rattle.su_exec.proofs.CheckTests.{has_push, hold_push, pass_push, take_now}
use Rattle.su_exec.proofs.checks.take_one.Goals as goal

pub returns-in_ok-push-in-Some-clause-same : goal.returns-in_ok-push-in-Some-clause-same
returns-in_ok-push-in-Some-clause-same c = λ values v.
    let row = map v c.args.left.now in
    let other = map v c.args.right.now in
    let ts = c.args.tests.now.items in
    let ls = c.args.later.now.items in
    let t = c.in-Some.test in
    ap (λ xs. all_pass values xs row other && all_hold values ls v) c.in_ok-push-in-Some.ensures.items ∙ ap (λ b. b && all_hold values ls v) (pass_push values ts t row other)
    ∙ take_now (all_pass values ts row other) (test_passes values row other t) (all_hold values ls v) (check_holds values v c.args.check) (c.in-Some.ensures.test values v)

pub returns-in_ok-push-in-None-clause-same : goal.returns-in_ok-push-in-None-clause-same
returns-in_ok-push-in-None-clause-same c = λ values v.
    let row = map v c.args.left.now in
    let other = map v c.args.right.now in
    let ts = c.args.tests.now.items in
    let ls = c.args.later.now.items in
    ap (λ xs. all_pass values ts row other && all_hold values xs v) c.in_ok-push-in-None.ensures.items ∙ ap (λ b. all_pass values ts row other && b) (hold_push values ls c.args.check v)
    ∙ sym (and_assoc (all_pass values ts row other) (all_hold values ls v) (check_holds values v c.args.check))

pub returns-in_ok-push-in-None-clause-vars : goal.returns-in_ok-push-in-None-clause-vars
returns-in_ok-push-in-None-clause-vars c = λ k h.
    sym (has_push c.args.later.now.items c.args.check k) ∙ ap (λ xs. has (check_vars xs) k) (sym c.in_ok-push-in-None.ensures.items) ∙ h
