-- The words, the attributes and the line's end, one behind another.
use Rattle.std.proofs.Common.{codes}
use Rattle.std.proofs.lemmas.Result.{on_ok_weaker}
use Rattle.su_report.specs.ObjectLines.{listed}
use Rattle.su_report.proofs.Texts.{three_added}
use Rattle.su_report.proofs.cycle_lines.push_breaker.Goals as goal

pub returns : goal.returns
returns c =
    on_ok_weaker c.push-2.result
    (λ e. three_added c.args.out.now.items (codes "  acyclic without ") (listed c.args.schema.now c.args.set) (codes "\n") c.push.new.out.items c.push_attributes.new.out.items c.push-2.new.out.items c.in_ok-push.ensures c.in_ok-push_attributes.ensures e)
    c.push-2.ensures
