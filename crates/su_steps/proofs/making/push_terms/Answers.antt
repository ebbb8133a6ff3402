-- The terms so far are those of the choices so far, numbered in lexicographic order.
use Rattle.std.proofs.Common.{◌∙◌, ◌<◌, ◌≤◌, ◌++◌, min, map, sym, ap, subst, get_or, length, [], append-nil}
use Rattle.std.specs.Prelude.{All}
use Rattle.std.proofs.lemmas.List.{take_all}
use Rattle.su_steps.specs.Choices.{combinations, choices}
use Rattle.su_steps.specs.Terms.{case_of, AreTermsOf}
use Rattle.su_steps.specs.Limits.{row_count}
use Rattle.su_steps.specs.inside.Ready.{IsReady, IsChoice}
use Rattle.su_steps.proofs.Cases.{coverings_few, choice_in, count_is}
use Rattle.su_steps.proofs.TermsSoFar.{choice_step}
use Rattle.su_steps.proofs.making.push_terms.Goals as goal

pub choice_count-count-requires : goal.choice_count-count-requires
choice_count-count-requires c = subst (All (λ ms. length ms ≤ 128)) (sym c.requires.coverings) (coverings_few c.args.question.now.schema.now c.args.question.now.maximal.now c.args.question.now.resolved.now c.requires.few)

pub open_classes-requires-clause-variables : goal.open_classes-requires-clause-variables
open_classes-requires-clause-variables c = c.requires.resolved.few_variables

pub open_classes-requires-clause-width : goal.open_classes-requires-clause-width
open_classes-requires-clause-width c = c.width_of.ensures.few

pub open_classes-requires-clause-places : goal.open_classes-requires-clause-places
open_classes-requires-clause-places c = c.requires.literals.places

pub loop-k-init : goal.loop-k-init
loop-k-init c = record {
  ready = subst (λ n. IsReady n c.args.question.now.resolved.now c.args.literals.now c.in_ok-classes.classes) c.width_of.ensures.is c.in_ok-classes.ensures;
  are = λ cs h. subst (λ xs. AreTermsOf c.args.question.now.schema.now c.args.question.now.maximal.now c.args.question.now.resolved.now xs c.args.terms.now) (sym (append-nil cs)) h;
}

pub choice_at-requires-clause-count : goal.choice_at-requires-clause-count
choice_at-requires-clause-count c =
    let all = ap combinations c.requires.coverings in
    count_is c.args.question.now.schema.now c.args.question.now.maximal.now c.args.question.now.resolved.now c.choice_count-count.result c.args.disjunct (c.choice_count-count.ensures ∙ ap (λ xs. min (length xs) 257) all) c.requires.accepted.few_terms c.requires.place
    ∙ sym (ap length all)

pub term-requires-clause-choice : goal.term-requires-clause-choice
term-requires-clause-choice c =
    let all = ap combinations c.requires.coverings in
    let many = count_is c.args.question.now.schema.now c.args.question.now.maximal.now c.args.question.now.resolved.now c.choice_count-count.result c.args.disjunct (c.choice_count-count.ensures ∙ ap (λ xs. min (length xs) 257) all) c.requires.accepted.few_terms c.requires.place in
    let low = subst (λ n. c.loop-k.k < n) many c.loop-k-test.true in
    subst (IsChoice c.args.question.now.schema.now c.args.question.now.maximal.now c.args.question.now.resolved.now) (sym (c.in_ok-choice.ensures ∙ ap (λ xs. get_or xs c.loop-k.k []) all)) (choice_in c.args.question.now.schema.now c.args.question.now.maximal.now c.args.question.now.resolved.now c.loop-k.k low)

pub term-requires-clause-few : goal.term-requires-clause-few
term-requires-clause-few c =
    let all = ap combinations c.requires.coverings in
    let many = count_is c.args.question.now.schema.now c.args.question.now.maximal.now c.args.question.now.resolved.now c.choice_count-count.result c.args.disjunct (c.choice_count-count.ensures ∙ ap (λ xs. min (length xs) 257) all) c.requires.accepted.few_terms c.requires.place in
    let low = subst (λ n. c.loop-k.k < n) many c.loop-k-test.true in
    subst (λ choice. row_count c.args.question.now.schema.now c.args.question.now.maximal.now choice ≤ 64) (sym (c.in_ok-choice.ensures ∙ ap (λ xs. get_or xs c.loop-k.k []) all)) (c.requires.accepted.few_rows c.loop-k.k [] low)

pub term-requires-clause-ready : goal.term-requires-clause-ready
term-requires-clause-ready c = c.loop-k.invariant.ready

pub loop-k-preserved : goal.loop-k-preserved
loop-k-preserved c =
    let all = ap combinations c.requires.coverings in
    let many = count_is c.args.question.now.schema.now c.args.question.now.maximal.now c.args.question.now.resolved.now c.choice_count-count.result c.args.disjunct (c.choice_count-count.ensures ∙ ap (λ xs. min (length xs) 257) all) c.requires.accepted.few_terms c.requires.place in
    let low = subst (λ n. c.loop-k.k < n) many c.loop-k-test.true in
    record {
      ready = c.in_ok-made.ensures.ready;
      are = λ cs h. choice_step c.args.question.now.schema.now c.args.question.now.maximal.now c.args.question.now.resolved.now cs c.args.disjunct c.loop-k.k c.in_ok-choice.choice c.loop-k.terms c.push_term.new.terms c.in_ok-made.made low (c.in_ok-choice.ensures ∙ ap (λ xs. get_or xs c.loop-k.k []) all) (c.loop-k.invariant.are cs h) c.in_ok-made.ensures.term c.in_ok-push_term.ensures;
    }

pub returns : goal.returns
returns c =
    let all = ap combinations c.requires.coverings in
    let many = count_is c.args.question.now.schema.now c.args.question.now.maximal.now c.args.question.now.resolved.now c.choice_count-count.result c.args.disjunct (c.choice_count-count.ensures ∙ ap (λ xs. min (length xs) 257) all) c.requires.accepted.few_terms c.requires.place in
    let high = subst (λ n. n ≤ c.loop-k.k) many c.loop-k-test.false in
    λ cs h. subst (λ xs. AreTermsOf c.args.question.now.schema.now c.args.question.now.maximal.now c.args.question.now.resolved.now (cs ++ map (case_of c.args.disjunct) xs) c.loop-k.terms) (take_all c.loop-k.k (choices c.args.question.now.schema.now c.args.question.now.maximal.now c.args.question.now.resolved.now) high) (c.loop-k.invariant.are cs h)
