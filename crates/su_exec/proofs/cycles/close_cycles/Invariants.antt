use Rattle.std.proofs.Common.{◌≡◌, ◌<◌, ◌≤◌, length}
use Rattle.su_exec.specs.inside.Bodies.{AreThere}
use Rattle.su_exec.specs.inside.Checks.{all_hold}
use Rattle.su_exec.specs.inside.Edges.{Keeps}
use Rattle.su_exec.proofs.cycles.close_cycles.Given as goal

abbrev pub invariant-loop : goal.invariant-loop
invariant-loop l = record {
  checks : l.body.checks.items ≡ l.initial.body.checks.items;
  keeps : Keeps l.needed l.initial.body.edges.items (all_hold l.codes l.initial.body.checks.items) l.body.edges.items (all_hold l.codes l.initial.body.checks.items);
  there : AreThere l.needed l.initial.body.checks.items l.body.edges.items;
  some : 0 < length l.body.edges.items;
  fewer : length l.body.edges.items ≤ length l.initial.body.edges.items;
}
