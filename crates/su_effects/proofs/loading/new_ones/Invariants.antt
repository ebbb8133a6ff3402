use Rattle.std.proofs.Common.{◌≡◌, ◌++◌}
use Rattle.std.specs.Vec.Iter.{into_iter_items}
use Rattle.su_effects.specs.inside.Statements.{AreNewOf}
use Rattle.su_effects.proofs.loading.new_ones.Given as goal

abbrev pub invariant-loop-row : goal.invariant-loop-row
invariant-loop-row l = record {
  rest : l.fn.rows ≡ l.yielded ++ into_iter_items l.row-iterator;
  are : AreNewOf l.table.rows l.yielded l.new_ones;
}
