-- The text so far is that of the tables of the relations so far.
use Rattle.su_sql.specs.Changes.{create_text}
use Rattle.su_sql.proofs.ImageLists.{flat_next}
use Rattle.su_sql.proofs.scripts.tables.Goals as goal

pub loop-relation-preserved : goal.loop-relation-preserved
loop-relation-preserved c = flat_next (create_text c.args.dialect c.args.schema.now) c.loop-relation.relation c.loop-relation.out.items c.push_table.new.out.items c.loop-relation.invariant c.in_ok-push_table.ensures
