-- The line that is written as a comment is the line of the refusal.
use Rattle.std.proofs.Common.{sym, subst}
use Rattle.std.proofs.lemmas.Result.{IfOk-weaker}
use Rattle.su_show.specs.RefusalLines.{IsRefusalLine}
use Rattle.su_sql.specs.QueryReplies.{RefusesWith, RefusesFor}
use Rattle.su_sql.proofs.statements.refused.Goals as goal

pub returns : goal.returns
returns c =
    let line = c.as_slice.result.now in
    let told : IsRefusalLine c.args.schema.now c.args.why line = subst (IsRefusalLine c.args.schema.now c.args.why) (sym c.as_slice.ensures) c.in_ok-line.ensures in
    IfOk-weaker c.refused_line.result (RefusesWith line) (RefusesFor c.args.schema.now c.args.why) (λ reply h. (line, told, h)) c.refused_line.ensures
