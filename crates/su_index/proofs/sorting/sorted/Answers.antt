-- Leads are in the order of the values, so sorted keys are in the order of values and positions.
use Rattle.std.proofs.Common.{length}
use Rattle.su_index.specs.inside.Order.{value_at}
use Rattle.su_index.proofs.Entries.{run_with-sorted}
use Rattle.su_index.proofs.sorting.sorted.Goals as goal

pub returns-clause-run : goal.returns-clause-run
returns-clause-run c =
    rw (c.in_ok-run.ensures, c.as_slice.ensures.value)
    (run_with-sorted (value_at c.args.rows.now c.args.column) c.args.from (length c.args.rows.now) c.in_ok-keys.keys.items c.sort_unstable.new.self.items c.sort_unstable.ensures.permutation c.in_ok-keys.ensures.values c.in_ok-keys.ensures.each c.in_ok-keys.ensures.len c.sort_unstable.ensures.sorted)
