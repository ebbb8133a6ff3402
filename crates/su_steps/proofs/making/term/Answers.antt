-- The rows of a choice are few and typed, so that the tableau and its origins make a term; where the comparisons clash the choice has none.
use Rattle.std.proofs.Common.{◌∙◌, ◌<◌, length, sym, ap, subst, arith}
use Rattle.std.specs.Prelude.{All}
use Rattle.su_steps.specs.Choices.{origins_of}
use Rattle.su_steps.specs.inside.Outs.{IsTableauIfAny}
use Rattle.su_steps.proofs.Termed.{fit_rows, rows_shown, gives_none, gives_some}
use Rattle.su_steps.proofs.making.term.Goals as goal

pub origins-requires-clause-few : goal.origins-requires-clause-few
origins-requires-clause-few c =
    let e = ap length c.as_slice.ensures in
    let n = c.requires.choice.one_per_variable in
    let few = c.requires.resolved.few_variables in
    omega arith

pub origins-requires-clause-numbers : goal.origins-requires-clause-numbers
origins-requires-clause-numbers c = subst (All (λ m. m < length c.args.question.now.maximal.now)) (sym c.as_slice.ensures) c.requires.choice.in_range

pub tableau-requires-clause-origins : goal.tableau-requires-clause-origins
tableau-requires-clause-origins c =
    let own_is = c.in_ok-origins.ensures ∙ ap (origins_of c.args.question.now.schema.now c.args.question.now.maximal.now) c.as_slice.ensures in
    fit_rows c.args.question.now.schema.now c.args.question.now.maximal.now c.args.question.now.resolved.now c.args.choice c.as_slice-2.result.now (c.as_slice-2.ensures ∙ own_is) c.requires.choice c.requires.few

pub tableau-requires-clause-covered : goal.tableau-requires-clause-covered
tableau-requires-clause-covered c =
    let own_is = c.in_ok-origins.ensures ∙ ap (origins_of c.args.question.now.schema.now c.args.question.now.maximal.now) c.as_slice.ensures in
    rows_shown c.args.question.now.schema.now c.args.question.now.maximal.now c.args.question.now.resolved.now c.args.choice c.as_slice-2.result.now (c.as_slice-2.ensures ∙ own_is) c.requires.resolved c.requires.choice

pub returns-in-Some-clause-ready : goal.returns-in-Some-clause-ready
returns-in-Some-clause-ready c = c.in_ok-tableau.ensures.ready

pub returns-in-Some-clause-term : goal.returns-in-Some-clause-term
returns-in-Some-clause-term c =
    let own_is = c.in_ok-origins.ensures ∙ ap (origins_of c.args.question.now.schema.now c.args.question.now.maximal.now) c.as_slice.ensures in
    let os = c.as_slice-2.result.now in
    gives_some c.args.question.now.schema.now c.args.question.now.maximal.now c.args.question.now.resolved.now c.args.choice os (c.as_slice-2.ensures ∙ own_is) c.args.disjunct c.args.literals.now c.requires.disjunct c.in_ok-origins.origins own_is c.in-Some.tableau
    (subst (IsTableauIfAny c.args.question.now.schema.now c.args.question.now.resolved.now os c.args.literals.now) c.in-Some.is c.in_ok-tableau.ensures.tableau)

pub returns-in-None-clause-ready : goal.returns-in-None-clause-ready
returns-in-None-clause-ready c = c.in_ok-tableau.ensures.ready

pub returns-in-None-clause-term : goal.returns-in-None-clause-term
returns-in-None-clause-term c =
    let own_is = c.in_ok-origins.ensures ∙ ap (origins_of c.args.question.now.schema.now c.args.question.now.maximal.now) c.as_slice.ensures in
    let os = c.as_slice-2.result.now in
    gives_none c.args.question.now.schema.now c.args.question.now.maximal.now c.args.question.now.resolved.now c.args.choice os (c.as_slice-2.ensures ∙ own_is) c.args.disjunct c.args.literals.now c.requires.disjunct
    (subst (IsTableauIfAny c.args.question.now.schema.now c.args.question.now.resolved.now os c.args.literals.now) c.in-None.is c.in_ok-tableau.ensures.tableau)
