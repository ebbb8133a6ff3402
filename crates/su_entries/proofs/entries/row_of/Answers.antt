-- The entry's next value is at the end of those that were read.
use Rattle.std.proofs.Common.{rules}
use Rattle.su_entries.proofs.RowSoFar.{one_more, one_more_held}
use Rattle.su_entries.proofs.entries.row_of.Goals as goal

pub loop-at-preserved : goal.loop-at-preserved
loop-at-preserved c = record {
  read = one_more c.args.entry.now c.loop-at.row _ c.loop-at.at c.in-Some.value (search rules) (search rules) (search rules) c.loop-at.invariant.read;
  held = one_more_held c.args.entry.now c.loop-at.at (search rules) (search rules) c.loop-at.invariant.held;
}
