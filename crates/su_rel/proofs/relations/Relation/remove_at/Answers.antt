-- The rows differ, so putting the last row in the place of one takes out that row alone.
use Rattle.std.proofs.Common.{sym}
use Rattle.su_rel.proofs.Rows.{TakenOut-swap_remove}
use Rattle.su_rel.proofs.relations.Relation.remove_at.Goals as goal

pub returns-clause-out : goal.returns-clause-out
returns-clause-out c = rw (← c.self.view_is) (TakenOut-swap_remove c.self.inside.rows.keys c.args.i c.in-Some.row _ c.len-len.ensures.unique (sym c.in-Some.ensures.key) c.in-Some.ensures.keys)
