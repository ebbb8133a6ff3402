-- The parts so far are the numbers of the places so far, counted from 1.
use Rattle.su_sql.specs.Queries.{place_number}
use Rattle.su_base.proofs.Items.{map-range_push}
use Rattle.su_sql.proofs.writing.number_parts.Goals as goal

pub loop-i-preserved : goal.loop-i-preserved
loop-i-preserved c = map-range_push place_number c.loop-i.i _ _ _ c.in_ok-push.ensures.ok c.loop-i.invariant c.in_ok-number_part.ensures
