use Rattle.std.proofs.Common.{◌≡◌, true, take}
use Rattle.std.specs.List.{list_all}
use Rattle.su_compare.specs.Equalities.{asks_equalities}
use Rattle.su_compare.proofs.asking.+equalities.Given as goal

abbrev pub invariant-each_asks-loop-part : goal.invariant-each_asks-loop-part
invariant-each_asks-loop-part l = list_all (λ c. asks_equalities c l.negated) (take l.part-index l.parts) ≡ true
