use Rattle.su_exec.specs.inside.Checks.{all_hold}
use Rattle.su_exec.specs.inside.Ranges.{AreCut}
use Rattle.su_exec.proofs.narrowing.narrow.Given as goal

abbrev pub invariant-loop : goal.invariant-loop
invariant-loop l = AreCut (all_hold l.codes l.checks) l.initial.edges.items l.edges.items
