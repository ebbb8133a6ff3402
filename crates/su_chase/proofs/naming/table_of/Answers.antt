-- Each symbol of the rows is numbered as an item of its own, constants before variables, all below the size of the table; so the least classes of items are those of symbols.
use Rattle.std.proofs.Common.{◌≡◌, ◌+◌, List, length, subst, sym, arith}
use Rattle.std.specs.Prelude.{All}
use Rattle.su_classes.specs.declared.items.Placed.{Placed}
use Rattle.su_classes.specs.Items.{IsPlacedBelow}
use Rattle.su_chase.proofs.ItemLabels.{placed_below}
use Rattle.su_chase.proofs.Tabled.{numbered}
use Rattle.su_chase.proofs.naming.table_of.Goals as goal

pub close-requires-clause-cells : goal.close-requires-clause-cells
close-requires-clause-cells c =
    let vs = c.args.constants.now in
    let limit = c.args.limit in
    let fds = c.args.fds.now in
    let rows = c.args.rows.now in
    let are = c.requires.rows in
    let placed = c.in_ok-placed.placed in
    let items = length c.deref_mut.result.now in
    let size : items ≡ length vs + limit = omega (arith, c.in_ok-table.ensures.len, c.deref_mut.ensures.len) in
    let n = numbered vs limit fds rows are c.requires.all c.requires.ascending c.requires.above placed c.in_ok-placed.ensures.each c.in_ok-placed.ensures.rows in
    subst (λ (ps : List Placed). All (IsPlacedBelow items) ps) (sym c.as_slice.ensures) (placed_below vs limit are.width fds rows placed n are.narrow items size)
