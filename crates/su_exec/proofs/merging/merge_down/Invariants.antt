use Rattle.std.proofs.Common.{◌<◌, length}
use Rattle.su_exec.specs.inside.Bodies.{AreThere}
use Rattle.su_exec.specs.inside.Checks.{all_hold}
use Rattle.su_exec.specs.inside.Edges.{Keeps}
use Rattle.su_exec.proofs.merging.merge_down.Given as goal

abbrev pub invariant-loop-alloc : goal.invariant-loop-alloc
invariant-loop-alloc l = record {
  some : 0 < length l.body.edges.items;
  there : AreThere l.needed l.body.checks.items l.body.edges.items;
  keeps : Keeps l.needed l.fn.body.edges.items (all_hold l.codes l.fn.body.checks.items) l.body.edges.items (all_hold l.codes l.body.checks.items);
}

abbrev pub decreases-loop-alloc : goal.decreases-loop-alloc
decreases-loop-alloc l = length l.body.edges.items
