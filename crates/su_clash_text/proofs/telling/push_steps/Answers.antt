-- The next step's line comes behind those of the steps so far.
use Rattle.std.proofs.Common.{◌≡◌, ◌+◌, ◌∙◌, ◌++◌, ◌∷◌, ℕ, List, [], get_or, take, flat_map, sym, ap, append_assoc}
use Rattle.std.proofs.lemmas.List.{take_more}
use Rattle.su_base.proofs.Items.{flat_map-push}
use Rattle.su_clash.specs.declared.steps.Step.{Step}
use Rattle.su_clash_text.specs.Lines.{step_line}
use Rattle.su_clash_text.proofs.telling.push_steps.Goals as goal

pub loop-step-preserved : goal.loop-step-preserved
loop-step-preserved c =
    let old = c.args.out.now.items in
    let lines : Step → List ℕ = step_line c.args.db.now c.args.members.now in
    let steps = c.args.steps.now in
    let i = c.loop-step.step-index in
    let none : Step = record { fd = 0; first = 0; second = 0 } in
    let s : Step = get_or steps i none in
    let next : take (i + 1) steps ≡ take i steps ++ s ∷ [] = take_more steps i none c.loop-step-test.true in
    c.in_ok-push_step.ensures ∙ ap (λ (text : List ℕ). text ++ lines s) c.loop-step.invariant ∙ append_assoc old (flat_map lines (take i steps)) (lines s)
    ∙ ap (λ (text : List ℕ). old ++ text) (sym (ap (λ (xs : List Step). flat_map lines xs) next ∙ flat_map-push lines (take i steps) s))
