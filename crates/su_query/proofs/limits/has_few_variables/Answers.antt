-- The variables of the outputs and of the condition are those of all their refs, one after the other.
use Rattle.std.proofs.Common.{◌≡◌, ◌<◌, ◌≤◌, ◌++◌, ◌∙◌, true, false, [], ℕ, List, Option, Bor, length, map, sym, ap, subst}
use Rattle.std.specs.List.{flat_map}
use Rattle.std.proofs.lemmas.Result.{IfOk-weaker}
use Rattle.su_query.specs.declared.refs.Ref.{Ref}
use Rattle.su_query.specs.declared.conditions.Comparison.{Comparison}
use Rattle.su_query.specs.Mentions.{mentions}
use Rattle.su_query.specs.Refs.{NamedCond, refs_beside, refs_of}
use Rattle.su_query.specs.Limits.{variable_count}
use Rattle.su_query.specs.inside.CondComparisons.{HasComparisons}
use Rattle.su_query.proofs.FirstMentions.{mentions-append}
use Rattle.su_query.proofs.limits.has_few_variables.Goals as goal

pub returns-clause-few : goal.returns-clause-few
returns-clause-few c =
    let outputs = c.args.outputs.now in
    let refs : List Ref = map (λ r. r.now) c.as_slice.result.now in
    let all = ap (map (λ (r : Bor Ref). r.now)) c.as_slice.ensures ∙ c.in_ok-refs.ensures in
    IfOk-weaker c.have_few_variables.result (λ few. few ≡ true → length (mentions [] refs) ≤ 8) (λ few. (cond : NamedCond) → HasComparisons cond c.args.compared.now → few ≡ true → variable_count outputs cond ≤ 8)
    (λ few h cond is e.
    let whole = ap (mentions []) (all ∙ ap (λ (ks : List Comparison). outputs ++ flat_map refs_beside ks) (sym is)) ∙ mentions-append [] outputs (refs_of cond) in
    subst (λ (vs : List (Option (List ℕ))). length vs ≤ 8) whole (h e)) c.have_few_variables.ensures.few

pub returns-clause-many : goal.returns-clause-many
returns-clause-many c =
    let outputs = c.args.outputs.now in
    let refs : List Ref = map (λ r. r.now) c.as_slice.result.now in
    let all = ap (map (λ (r : Bor Ref). r.now)) c.as_slice.ensures ∙ c.in_ok-refs.ensures in
    IfOk-weaker c.have_few_variables.result (λ few. few ≡ false → 8 < length (mentions [] refs)) (λ few. (cond : NamedCond) → HasComparisons cond c.args.compared.now → few ≡ false → 8 < variable_count outputs cond)
    (λ few h cond is e.
    let whole = ap (mentions []) (all ∙ ap (λ (ks : List Comparison). outputs ++ flat_map refs_beside ks) (sym is)) ∙ mentions-append [] outputs (refs_of cond) in
    subst (λ (vs : List (Option (List ℕ))). 8 < length vs) whole (h e)) c.have_few_variables.ensures.many
