-- The terms so far are those of the disjuncts so far, each with all its choices.
use Rattle.std.proofs.Common.{◌≡◌, ◌∙◌, ◌<◌, ◌≤◌, sym, ap, subst, map, length, get_or, [], arith}
use Rattle.std.specs.List.{flat_map, range_with_len}
use Rattle.std.proofs.lemmas.List.{get_or_default}
use Rattle.su_base.proofs.Items.{flat_map-range_push}
use Rattle.su_where.specs.Disjunct.{disjuncts_of}
use Rattle.su_steps.specs.Choices.{choices}
use Rattle.su_steps.specs.Terms.{case_of, AreTermsOf}
use Rattle.su_steps.specs.inside.Ready.{FitLiterals}
use Rattle.su_steps.proofs.ResolvedQueries.{literals_fit}
use Rattle.su_steps.proofs.making.accepted_terms.Goals as goal

pub disjuncts-requires : goal.disjuncts-requires
disjuncts-requires c = c.requires.accepted.few_disjuncts

pub overflow_cast-i : goal.overflow_cast-i
overflow_cast-i c =
    let all = c.as_slice-literals-items.ensures ∙ c.in_ok-disjuncts.ensures.exact in
    let low : c.loop-i.i < length (disjuncts_of c.args.resolved.now.cond) = subst (λ xs. c.loop-i.i < length xs) all c.loop-i-test.true in
    let few : length (disjuncts_of c.args.resolved.now.cond) ≤ 64 = c.requires.accepted.few_disjuncts in
    omega arith

pub push_terms-requires-clause-few : goal.push_terms-requires-clause-few
push_terms-requires-clause-few c = c.requires.few

pub push_terms-requires-clause-accepted : goal.push_terms-requires-clause-accepted
push_terms-requires-clause-accepted c = c.requires.accepted

pub push_terms-requires-clause-coverings : goal.push_terms-requires-clause-coverings
push_terms-requires-clause-coverings c = c.requires.coverings

pub push_terms-requires-clause-literals : goal.push_terms-requires-clause-literals
push_terms-requires-clause-literals c =
    let q = c.args.resolved.now in
    let all = c.as_slice-literals-items.ensures ∙ c.in_ok-disjuncts.ensures.exact in
    let i = c.loop-i.i in
    let own = sym (c.as_slice.ensures ∙ c.literals-item.is ∙ get_or_default c.as_slice-literals-items.result.now i c.literals-item.result [] c.loop-i-test.true ∙ ap (λ xs. get_or xs i []) all) in
    subst (FitLiterals c.args.schema.now q) own (literals_fit c.args.schema.now q c.requires.resolved i (subst (λ xs. i < length xs) all c.loop-i-test.true))

pub push_terms-requires-clause-disjunct : goal.push_terms-requires-clause-disjunct
push_terms-requires-clause-disjunct c =
    let all = c.as_slice-literals-items.ensures ∙ c.in_ok-disjuncts.ensures.exact in
    let i = c.loop-i.i in
    sym (c.as_slice.ensures ∙ c.literals-item.is ∙ get_or_default c.as_slice-literals-items.result.now i c.literals-item.result [] c.loop-i-test.true ∙ ap (λ xs. get_or xs i []) all)

pub push_terms-requires-clause-place : goal.push_terms-requires-clause-place
push_terms-requires-clause-place c = subst (λ xs. c.loop-i.i < length xs) (c.as_slice-literals-items.ensures ∙ c.in_ok-disjuncts.ensures.exact) c.loop-i-test.true

pub loop-i-init : goal.loop-i-init
loop-i-init c = record { outs = []; each = tt; are = c.new-terms.ensures }

pub loop-i-preserved : goal.loop-i-preserved
loop-i-preserved c =
    let schema = c.args.schema.now in
    let q = c.args.resolved.now in
    subst (λ cs. AreTermsOf schema c.args.maximal.now q cs c.push_terms.new.terms) (sym (flat_map-range_push (λ i. map (case_of i) (choices schema c.args.maximal.now q)) c.loop-i.i)) (c.in_ok-push_terms.ensures _ c.loop-i.invariant)

pub returns : goal.returns
returns c =
    let schema = c.args.schema.now in
    let q = c.args.resolved.now in
    let many = ap length (c.as_slice-literals-items.ensures ∙ c.in_ok-disjuncts.ensures.exact) in
    let last : c.loop-i.i ≡ length (disjuncts_of q.cond) = (let low = c.loop-i.auto.i-end in let high = c.loop-i-test.false in omega arith) in
    subst (λ n. AreTermsOf schema c.args.maximal.now q (flat_map (λ i. map (case_of i) (choices schema c.args.maximal.now q)) (range_with_len 0 n)) c.loop-i.terms) last c.loop-i.invariant
