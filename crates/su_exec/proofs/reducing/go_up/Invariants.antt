use Rattle.su_exec.specs.inside.Semijoins.{Leaves}
use Rattle.su_exec.proofs.reducing.go_up.Given as goal

abbrev pub invariant-loop-link : goal.invariant-loop-link
invariant-loop-link l = Leaves l.needed l.initial.body.edges.items l.initial.body.checks.items l.body.edges.items l.body.checks.items
