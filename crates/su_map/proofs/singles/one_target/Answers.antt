-- Without its least member the set is empty, so another member would be left in it.
use Rattle.std.proofs.Common.{◌≡◌, ◌≢◌, ◌∙◌, ⊎_elim}
use Rattle.std.proofs.lemmas.Bool.{cases_eq}
use Rattle.su_map.proofs.Members.{no_member}
use Rattle.su_map.proofs.singles.one_target.Goals as goal

pub returns-then-others-eq0-clause-only : goal.returns-then-others-eq0-clause-only
returns-then-others-eq0-clause-only c = λ x one.
    ⊎_elim
    (λ (e : x ≡ c.lowest-target.result). e)
    (λ (ne : x ≢ c.lowest-target.result). absurd (no_member c.without-others.result x c.if-others-eq0.true (c.without-others.ensures.same x ne ∙ one)))
    (cases_eq x c.lowest-target.result)
