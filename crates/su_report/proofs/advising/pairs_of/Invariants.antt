use Rattle.std.proofs.Common.{◌≡◌, map, take}
use Rattle.su_report.specs.Advice.{unnamed}
use Rattle.su_report.proofs.advising.pairs_of.Given as goal

abbrev pub invariant-loop-attribute : goal.invariant-loop-attribute
invariant-loop-attribute l = l.pairs ≡ map (λ name. record { attribute = name; column = unnamed }) (take l.attribute-index l.attributes)
