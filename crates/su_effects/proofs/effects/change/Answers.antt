-- Without a row the change leads to the same rows.
use Rattle.std.proofs.Common.{◌≡◌, length, rules}
use Rattle.su_effects.proofs.PutRows.{none_lead}
use Rattle.su_effects.proofs.effects.change.Goals as goal

pub returns-then-is_empty : goal.returns-then-is_empty
returns-then-is_empty c = λ old new leads schema.
    let none : length c.args.rows ≡ 0 = search (rules, c.if-is_empty.true, c.is_empty.ensures) in
    (none_lead c.args.relation c.args.rows c.args.is_in old new none leads, schema)
