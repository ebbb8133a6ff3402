use Rattle.std.proofs.Common.{◌≡◌, ◌+◌, take}
use Rattle.su_refute.specs.AllTrees.{AreTrees, all_nodes}
use Rattle.su_refute.proofs.certifying.certify.Given as goal

abbrev pub invariant-loop-minimal : goal.invariant-loop-minimal
invariant-loop-minimal l = record {
  trees : AreTrees (take l.minimal-index l.minimals) l.all;
  counted : l.unused + all_nodes l.all ≡ l.budget;
}
