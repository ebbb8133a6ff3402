use Rattle.std.proofs.Common.{◌≡◌, map, Some, slice_get}
use Rattle.std.specs.List.{range_with_len, filter_map}
use Rattle.su_ddl.specs.ShownDefinitions.{pair_of}
use Rattle.su_ddl.proofs.entries.pairs_at.Given as goal

abbrev pub invariant-loop-a : goal.invariant-loop-a
invariant-loop-a l = slice_get (map (λ x. filter_map (pair_of l.schema x) (range_with_len 0 l.a)) l.schema.objects) l.fn.o ≡ Some l.pairs
