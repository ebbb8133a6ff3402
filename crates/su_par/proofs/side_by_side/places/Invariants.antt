use Rattle.std.proofs.Common.{◌≡◌, Some}
use Rattle.std.specs.List.{AllZip}
use Rattle.su_par.proofs.side_by_side.places.Given as goal

abbrev pub invariant-loop-job : goal.invariant-loop-job
invariant-loop-job g l = AllZip (λ job place. place.job ≡ Some job) l.yielded l.places
