use Rattle.std.proofs.Common.{◌≡◌, map, take}
use Rattle.su_sql.specs.TaskJoins.{comparison_of}
use Rattle.su_sql.proofs.linking.comparisons_of.Given as goal

abbrev pub invariant-loop-compared : goal.invariant-loop-compared
invariant-loop-compared l = l.comparisons ≡ map (comparison_of l.cells) (take l.compared-index l.all)
