-- The row taken out is the row at the place found for it, which is the one asked for.
use Rattle.std.proofs.Common.{◌≡◌}
use Rattle.su_rel.proofs.relations.Relation.remove.Goals as goal

pub returns-in-Some-clause-out : goal.returns-in-Some-clause-out
returns-in-Some-clause-out c =
    let is : c.remove_at-row.result ≡ c.args.row.now = cc (c.in-Some.ensures, c.remove_at-row.ensures.row) in
    rw is at c.remove_at-row.ensures.out
