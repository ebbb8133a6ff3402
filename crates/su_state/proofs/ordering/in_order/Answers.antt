-- Keys are in the order of their rows, since leads are in that of the first values; so rows that differ, read off sorted keys, are in strict order.
use Rattle.std.proofs.Common.{◌≡◌}
use Rattle.std.proofs.lemmas.Result.{IfOk-weaker}
use Rattle.su_base.specs.Lists.{AllDiffer}
use Rattle.su_state.specs.Changes.{AreInOrder}
use Rattle.su_state.proofs.Keyed.{rows_of_keys, in_order_by_keys}
use Rattle.su_state.proofs.ordering.in_order.Goals as goal

pub returns : goal.returns
returns c =
    let ordered : AllDiffer c.args.rows.now → AreInOrder c.args.rows.now (rows_of_keys c.sort_unstable.new.self.items) = in_order_by_keys c.args.rows.now c.in_ok-keys.keys.items c.sort_unstable.new.self.items c.in_ok-keys.ensures.rows c.in_ok-keys.ensures.leads c.sort_unstable.ensures.permutation c.sort_unstable.ensures.sorted in
    IfOk-weaker c.copies_of.result (λ out. out ≡ rows_of_keys c.as_slice.result.now) (λ sorted. AllDiffer c.args.rows.now → AreInOrder c.args.rows.now sorted) (λ out same. rw (same, c.as_slice.ensures.value) ordered) c.copies_of.ensures
