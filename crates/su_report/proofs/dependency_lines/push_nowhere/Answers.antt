-- The line, and below it an object that has all attributes.
use Rattle.std.proofs.Common.{codes}
use Rattle.std.proofs.lemmas.Result.{on_ok_weaker}
use Rattle.su_show.specs.Values.{fd_text}
use Rattle.su_report.specs.DependencyLines.{keeper}
use Rattle.su_report.proofs.Texts.{four_added}
use Rattle.su_report.proofs.dependency_lines.push_nowhere.Goals as goal

pub returns : goal.returns
returns c =
    let schema = c.args.schema.now in
    on_ok_weaker c.push_keeper.result
    (λ e. four_added c.args.out.now.items (codes "fault fd ") (fd_text schema c.args.fd.now) (codes " lies in no object\n") (keeper schema c.args.fd.now) c.push.new.out.items c.push_fd.new.out.items c.push-2.new.out.items c.push_keeper.new.out.items c.in_ok-push.ensures c.in_ok-push_fd.ensures c.in_ok-push-2.ensures e)
    c.push_keeper.ensures
