-- The next row is that of the next relation.
use Rattle.std.proofs.Common.{◌+◌}
use Rattle.su_keep.proofs.NamesBefore.{got_at}
use Rattle.su_keep.proofs.Written.{next_row}
use Rattle.su_keep.proofs.reading.check_tables.Goals as goal

pub loop-r-preserved : goal.loop-r-preserved
loop-r-preserved c =
    let found = c.in-Some.ensures.lookup in
    next_row c.args.schema.now c.args.objects.now c.loop-r.r c.in-Some.row.now c.loop-r.invariant (got_at c.args.objects.now (c.loop-r.r + 1) c.in-Some.row.now found.3.0 found.1) (c.in_ok-is_row_of.ensures c.if-not-branch.false)
