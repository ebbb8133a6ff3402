-- A row has at most one list of constants at the attributes, so what the list gains is this one, and nothing where there is none.
use Rattle.std.proofs.Common.{List, Option, MatchOption, subst}
use Rattle.su_base.specs.declared.values.Value.{Value}
use Rattle.su_window.specs.inside.Readings.{AreConstants}
use Rattle.su_window.proofs.Constants.{added}
use Rattle.su_window.proofs.windows.push_constants.Goals as goal

pub returns-in_ok-push : goal.returns-in_ok-push
returns-in_ok-push c =
    let names = c.args.names.now in
    let row = c.args.row.now in
    let attributes = c.args.attributes.now in
    let are : AreConstants names row attributes c.in-Some.values =
    subst (λ (o : Option (List Value)). MatchOption o ((h : List Value) → ¬ AreConstants names row attributes h) (AreConstants names row attributes)) c.in-Some.is c.in_ok-values.ensures in
    added names row attributes c.in-Some.values c.args.found.now c.push.new.self c.in_ok-push.ensures.ok are
