use Rattle.std.proofs.Common.{◌≡◌, ◌<◌, false}
use Rattle.std.specs.List.{list_any}
use Rattle.su_advise.specs.Alone.{joins_other}
use Rattle.su_advise.proofs.Passed.{AreBelow}
use Rattle.su_advise.proofs.alone.lone_objects.Given as goal

abbrev pub invariant-loop-o : goal.invariant-loop-o
invariant-loop-o l = AreBelow (λ o. (1 < l.fn.objects) × (list_any (joins_other o) l.maximal ≡ false)) l.o l.found
