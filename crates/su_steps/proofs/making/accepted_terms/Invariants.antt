use Rattle.std.specs.List.{flat_map, range_with_len}
use Rattle.std.proofs.Common.{map}
use Rattle.su_steps.specs.Choices.{choices}
use Rattle.su_steps.specs.Terms.{case_of, AreTermsOf}
use Rattle.su_steps.proofs.making.accepted_terms.Given as goal

abbrev pub invariant-loop-i : goal.invariant-loop-i
invariant-loop-i l = AreTermsOf l.schema l.maximal l.resolved (flat_map (λ i. map (case_of i) (choices l.schema l.maximal l.resolved)) (range_with_len 0 l.i)) l.terms
