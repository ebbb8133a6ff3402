-- Stored rows that agree on the left side agree on the right side as well, so one of them tells for all whether the new row clashes with any.
use Rattle.std.proofs.Common.{◌≡◌, List, [], Contains, refl}
use Rattle.std.proofs.lemmas.List.Elements.{Contains-get_or}
use Rattle.su_base.specs.declared.values.Value.{Value}
use Rattle.su_state.specs.inside.Sides.{AgreeAt, row_at}
use Rattle.su_state.proofs.Alike.{one_for_all}
use Rattle.su_state.proofs.Least.{row_there}
use Rattle.su_state.proofs.clashes.least_breach.Goals as goal

pub returns-then-agree : goal.returns-then-agree
returns-then-agree c =
    let one : List Value = row_at c.args.table.now.rows c.in-Some.position in
    let is : one ≡ c.row.result.now = row_there c.args.table.now.rows c.in-Some.position c.row.result.now c.row.ensures in
    let here : Contains c.args.table.now.rows one = Contains-get_or c.args.table.now.rows c.in-Some.position [] c.in-Some.ensures.0 in
    let right : AgreeAt c.args.sides.now.right c.args.row.now one = rw is (c.if-agree.ensures.0 refl) in
    one_for_all c.args.sides.now c.args.table.now.rows c.args.row.now one c.requires.keeps here c.in-Some.ensures.1 right

pub returns-in-None : goal.returns-in-None
returns-in-None c = λ other there clash. c.in-None.ensures other there clash.0
