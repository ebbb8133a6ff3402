-- A wanted variable is added if it isn't there, so afterwards it is, and nothing else has come in.
use Rattle.std.proofs.Common.{◌≡◌, ◌∷◌, ◌++◌, true, [], ap, sym, ◌∙◌, inl, inr, ⊎_elim, arith}
use Rattle.std.proofs.lemmas.Bool.Decides.{nat_tests}
use Rattle.su_exec.specs.inside.Edges.{has}
use Rattle.su_exec.proofs.ChosenVariables.{has_one}
use Rattle.su_exec.proofs.BodySteps.{has_either, has_first, has_second}
use Rattle.su_exec.proofs.closing.add_one.Goals as goal

pub returns-clause-kept : goal.returns-clause-kept
returns-clause-kept c = λ k h. rw c.in_ok-push.ensures.items (has_first c.args.vars.now.items (c.args.x ∷ []) k h)

pub returns-clause-had : goal.returns-clause-had
returns-clause-had c = λ w. rw c.in_ok-push.ensures.items (has_second c.args.vars.now.items (c.args.x ∷ []) c.args.x (grind (arith, nat_tests)))

pub returns-clause-only : goal.returns-clause-only
returns-clause-only c = λ k h.
    let all : has (c.args.vars.now.items ++ c.args.x ∷ []) k ≡ true = ap (λ ks. has ks k) (sym c.in_ok-push.ensures.items) ∙ h in
    ⊎_elim (λ o. inl o) (λ n. inr (has_one c.args.x k n)) (has_either c.args.vars.now.items (c.args.x ∷ []) k all)
