-- What was gathered are the constants of the first's terms and then the second's, and sorting keeps which values are among them.
use Rattle.std.proofs.Common.{◌++◌, ap, ◌∙◌}
use Rattle.su_compare.specs.inside.Settlements.{terms_constants}
use Rattle.su_compare.proofs.Gathered.{of_both}
use Rattle.su_compare.proofs.shown.constants_of.Goals as goal

pub returns : goal.returns
returns c = λ v.
    let first = c.args.first.now in
    let second = c.args.second.now in
    of_both first second c.push_terms-2.new.constants c.sorted_values.result v
    (c.in_ok-push_terms-2.ensures ∙ ap (λ xs. xs ++ terms_constants second) (c.in_ok-push_terms.ensures ∙ ap (λ xs. xs ++ terms_constants first) c.new-constants.ensures)) (c.sorted_values.ensures.members v)
