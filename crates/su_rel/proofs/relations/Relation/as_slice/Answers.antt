-- The rows are the distinct keys of the set, and each is as wide as the invariant says.
use Rattle.su_rel.proofs.Rows.{AllDiffer-from_distinct}
use Rattle.su_rel.proofs.relations.Relation.as_slice.Goals as goal

pub returns-clause-relation : goal.returns-clause-relation
returns-clause-relation c = rw (← c.self.view_is) (record { width = c.self.invariant; differ = AllDiffer-from_distinct _ c.as_slice.ensures.unique })
