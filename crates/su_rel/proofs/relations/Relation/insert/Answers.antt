-- The set has the row already or puts it at the end, as a search for the row decides; that is what being new tells.
use Rattle.su_base.proofs.Same.{has_row}
use Rattle.su_rel.proofs.Rows.{inserted}
use Rattle.su_rel.proofs.relations.Relation.insert.Goals as goal
use Rattle.su_rel.proofs.relations.Relation.insert.Goals.{in-Ok, in-Err}

pub returns-clause-ok : goal.returns-clause-ok
returns-clause-ok c =
    elim c.match-insert.branch [
      | in-Ok w ↦ rw w.result-is (inserted _ _ _ (has_row c.self.inside.rows.keys c.args.row) _ w.in-Ok.ensures.added _ w.in-Ok.ensures.keys _ _ c.self.view_is)
      | in-Err w ↦ rw w.result-is tt
    ]
