-- The cells so far are the row's values, or the padding variable where it has none.
use Rattle.std.proofs.Common.{◌+◌, get_or, None}
use Rattle.su_base.proofs.Items.{map-range_push}
use Rattle.su_window.specs.inside.Readings.{symbol_in}
use Rattle.su_clash.proofs.padding.padded_row.Goals as goal

pub loop-a-preserved : goal.loop-a-preserved
loop-a-preserved c = map-range_push (λ a. symbol_in c.args.row.now (get_or c.args.columns.now a None) (c.args.first + a)) c.loop-a.a _ _ _ c.in_ok-push.ensures.ok c.loop-a.invariant c.in_ok-cell.ensures
