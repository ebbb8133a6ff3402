use Rattle.su_advise.specs.Unused.{IsRead}
use Rattle.su_advise.proofs.Passed.{AreBelow}
use Rattle.su_advise.proofs.unused.unread_relations.Given as goal

abbrev pub invariant-loop-r : goal.invariant-loop-r
invariant-loop-r l = AreBelow (λ r. ¬ IsRead l.schema r) l.r l.found
