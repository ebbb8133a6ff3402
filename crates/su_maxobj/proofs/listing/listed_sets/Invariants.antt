use Rattle.std.proofs.Common.{◌≡◌, ◌++◌, map}
use Rattle.std.specs.List.{filter, range_with_len}
use Rattle.su_base.specs.Sets.{set_at}
use Rattle.su_maxobj.specs.MaximalObjects.{is_listed}
use Rattle.su_maxobj.proofs.listing.listed_sets.Given as goal

abbrev pub invariant-loop-seed : goal.invariant-loop-seed
invariant-loop-seed l = l.sets ≡ l.declared ++ map (set_at l.grown) (filter (is_listed l.declared l.grown) (range_with_len 0 l.seed))
