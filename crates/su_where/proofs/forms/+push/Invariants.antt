use Rattle.std.proofs.Common.{◌≡◌, ◌<◌, ◌≤◌, ◌++◌, [], map, length, drop, get_or}
use Rattle.su_where.specs.Disjunct.{combined, form_of}
use Rattle.su_where.specs.inside.Joined.{joined}
use Rattle.su_where.proofs.forms.+push.Given as goal

abbrev pub invariant-push_joined-loop-part : goal.invariant-push_joined-loop-part
invariant-push_joined-loop-part l = record {
  place : l.left < length (joined (map (λ c. form_of c l.negated) (drop l.part-index l.parts)));
  few : length (joined (map (λ c. form_of c l.negated) (drop l.part-index l.parts))) ≤ 64;
  same : get_or (joined (map (λ c. form_of c l.negated) (drop l.part-index l.parts))) l.left [] ≡ get_or (joined (map (λ c. form_of c l.negated) l.parts)) l.k [];
  untouched : l.out ≡ l.fn.out;
}

abbrev pub invariant-push_combined-loop-part : goal.invariant-push_combined-loop-part
invariant-push_combined-loop-part l = record {
  place : l.left < l.total;
  few : l.total ≤ 64;
  total : l.total ≡ length (combined (map (λ c. form_of c l.negated) (drop l.part-index l.parts)));
  whole : l.out ++ get_or (combined (map (λ c. form_of c l.negated) (drop l.part-index l.parts))) l.left [] ≡ l.fn.out ++ get_or (combined (map (λ c. form_of c l.negated) l.parts)) l.k [];
}
