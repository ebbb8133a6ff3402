-- A place found among the distinct keys has the row, and where none is found it is no key.
use Rattle.su_rel.proofs.Rows.{found}
use Rattle.su_rel.proofs.relations.Relation.position.Goals as goal

pub returns : goal.returns
returns c = rw (← c.self.view_is) (found c.self.inside.rows.keys c.args.row.now _ c.get_index_of.ensures.index)
