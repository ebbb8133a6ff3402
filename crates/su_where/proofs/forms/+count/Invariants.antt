use Rattle.std.proofs.Common.{◌≡◌, min, map, length, take}
use Rattle.su_where.specs.Disjunct.{combined, form_of}
use Rattle.su_where.specs.inside.Joined.{joined}
use Rattle.su_where.proofs.forms.+count.Given as goal

abbrev pub invariant-count_joined-loop-part : goal.invariant-count_joined-loop-part
invariant-count_joined-loop-part l = l.total ≡ min (length (joined (map (λ c. form_of c l.negated) (take l.part-index l.parts)))) 65

abbrev pub invariant-count_combined-loop-part : goal.invariant-count_combined-loop-part
invariant-count_combined-loop-part l = l.total ≡ min (length (combined (map (λ c. form_of c l.negated) (take l.part-index l.parts)))) 65
