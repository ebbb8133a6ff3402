-- What is gathered are the variables of the rows so far, of all in the end; bringing them into order, each once, keeps the members.
use Rattle.std.proofs.Common.{◌≡◌, ◌∙◌, ℕ, List, Contains, subst, sym, arith}
use Rattle.su_chase.proofs.FrozenValues.{variables_in, variables_all, variable_in, variable_occurs}
use Rattle.su_chase.proofs.freezing.variables_of.Goals as goal

pub returns-clause-all : goal.returns-clause-all
returns-clause-all c = λ k.
    let rows = c.args.rows.now in
    let found : c.into_vec.result.items ≡ variables_in rows = c.into_vec.ensures ∙ variables_all rows c.loop-row.row-index c.loop-row.variables (omega arith) c.loop-row.invariant in
    let same = c.ascending.ensures.members k in (
      λ h. variable_occurs rows k (subst (λ (xs : List ℕ). Contains xs k) found (same.0 (subst (λ (xs : List ℕ). Contains xs k) c.from_vec.ensures h))),
      λ h. subst (λ (xs : List ℕ). Contains xs k) (sym c.from_vec.ensures) (same.1 (subst (λ (xs : List ℕ). Contains xs k) (sym found) (variable_in rows k h))),
    )
