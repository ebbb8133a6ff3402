use Rattle.std.proofs.Common.{◌≡◌, Some}
use Rattle.std.specs.List.{AllZip}
use Rattle.su_par.proofs.side_by_side.outs.Given as goal

abbrev pub invariant-loop-place : goal.invariant-loop-place
invariant-loop-place g l = AllZip (λ place out. place.out ≡ Some out) l.yielded l.outs
