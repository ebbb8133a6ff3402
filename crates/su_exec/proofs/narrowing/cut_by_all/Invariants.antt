use Rattle.su_exec.specs.inside.Checks.{all_hold}
use Rattle.su_exec.specs.inside.Ranges.{AreCut}
use Rattle.su_exec.proofs.narrowing.cut_by_all.Given as goal

abbrev pub invariant-loop-check : goal.invariant-loop-check
invariant-loop-check l = AreCut (all_hold l.codes l.checks) l.initial.edges.items l.edges.items
