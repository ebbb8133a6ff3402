use Rattle.std.proofs.Common.{◌≡◌, ◌++◌, [], map}
use Rattle.std.specs.Vec.Iter.{into_iter_items}
use Rattle.su_draw.specs.inside.Lay.{column_of, names_with}
use Rattle.su_draw.proofs.tables.columns_of.Given as goal

abbrev pub invariant-loop-name : goal.invariant-loop-name
invariant-loop-name l = record {
  rest : names_with [] l.cells ≡ l.yielded ++ into_iter_items l.name-iterator;
  made : l.columns ≡ map (column_of l.cells) l.yielded;
}
