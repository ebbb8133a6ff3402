-- The refusals are tested in their order, so that each tells the first cause; the terms of what is accepted are the expression.
use Rattle.std.proofs.Common.{◌≡◌, ◌∙◌, ◌<◌, ◌≤◌, inr, ℕ, sym, ap, subst, length, min, arith}
use Rattle.std.specs.Prelude.{All}
use Rattle.std.proofs.lemmas.Nat.{mul-le}
use Rattle.su_where.specs.Disjunct.{disjuncts_of}
use Rattle.su_query.specs.declared.resolving.Resolved.{Resolved}
use Rattle.su_steps.specs.Choices.{combinations}
use Rattle.su_steps.specs.Limits.{disjunct_count}
use Rattle.su_steps.proofs.Chosen.{coverings_count}
use Rattle.su_steps.proofs.Cases.{coverings_low, coverings_few}
use Rattle.su_steps.proofs.Refused.{covered_is, refused_cover, first_below, many_disjuncts, few_disjuncts, many_rows, few_rows, many_terms, few_terms}
use Rattle.su_steps.proofs.Whole.{whole, all_typed}
use Rattle.su_steps.proofs.making.terms.Goals as goal

-- a count of at most 64 is exact
exactly : (q : Resolved) (n : ℕ) → n ≡ min (length (disjuncts_of q.cond)) 65 → n ≤ 64 → n ≡ disjunct_count q
exactly q n e l = omega arith

pub coverings-requires-clause-few : goal.coverings-requires-clause-few
coverings-requires-clause-few c = c.requires.few

pub coverings-requires-clause-variables : goal.coverings-requires-clause-variables
coverings-requires-clause-variables c = c.requires.resolved.few_variables

pub coverings-requires-clause-places : goal.coverings-requires-clause-places
coverings-requires-clause-places c = c.requires.resolved.places

pub overflow_cast-v : goal.overflow_cast-v
overflow_cast-v c =
    let all = c.as_slice-coverings.ensures ∙ c.in_ok-coverings.ensures in
    let low = first_below c.args.schema.now c.args.maximal.now c.args.resolved.now c.as_slice-coverings.result.now all c.in-Some.v (sym c.in-Some.is ∙ c.first_empty.ensures) in
    let few = c.requires.resolved.few_variables in
    omega arith

pub not_covered-requires-clause-variable : goal.not_covered-requires-clause-variable
not_covered-requires-clause-variable c =
    let all = c.as_slice-coverings.ensures ∙ c.in_ok-coverings.ensures in
    first_below c.args.schema.now c.args.maximal.now c.args.resolved.now c.as_slice-coverings.result.now all c.in-Some.v (sym c.in-Some.is ∙ c.first_empty.ensures)

pub not_covered-requires-clause-places : goal.not_covered-requires-clause-places
not_covered-requires-clause-places c = λ k p l. let low = (c.requires.resolved.places k p l).attribute in let few = c.keeps_its_rules.ensures.few_attributes in omega arith

pub returns-in-Some-clause-refused : goal.returns-in-Some-clause-refused
returns-in-Some-clause-refused c =
    let all = c.as_slice-coverings.ensures ∙ c.in_ok-coverings.ensures in
    inr (refused_cover c.args.schema.now c.args.maximal.now c.args.resolved.now c.as_slice-coverings.result.now all c.in-Some.v c.in_ok-not_covered-in-Some.field-0 (sym c.in-Some.is ∙ c.first_empty.ensures) c.in_ok-not_covered-in-Some.ensures)

pub returns-then-disjuncts-gt64-clause-refused : goal.returns-then-disjuncts-gt64-clause-refused
returns-then-disjuncts-gt64-clause-refused c =
    let all = c.as_slice-coverings.ensures ∙ c.in_ok-coverings.ensures in
    let none = sym c.in-None.is ∙ c.first_empty.ensures in
    inr (covered_is c.args.schema.now c.args.maximal.now c.args.resolved.now c.as_slice-coverings.result.now all none, many_disjuncts c.args.schema.now c.args.maximal.now c.args.resolved.now c.as_slice-coverings.result.now all c.disjunct_count-disjuncts.result c.disjunct_count-disjuncts.ensures c.if-disjuncts-gt64.true)

pub most_rows-requires-clause-few : goal.most_rows-requires-clause-few
most_rows-requires-clause-few c =
    let many = ap length (c.as_slice-coverings.ensures ∙ c.in_ok-coverings.ensures) in
    let each = coverings_count c.args.schema.now c.args.maximal.now c.args.resolved.now in
    let few = c.requires.resolved.few_variables in
    omega arith

pub most_rows-requires-clause-numbers : goal.most_rows-requires-clause-numbers
most_rows-requires-clause-numbers c = subst (All (λ ms. All (λ m. m < length c.args.maximal.now) ms)) (sym (c.as_slice-coverings.ensures ∙ c.in_ok-coverings.ensures)) (coverings_low c.args.schema.now c.args.maximal.now c.args.resolved.now)

pub returns-then-most_rows-gt64-clause-refused : goal.returns-then-most_rows-gt64-clause-refused
returns-then-most_rows-gt64-clause-refused c =
    let all = c.as_slice-coverings.ensures ∙ c.in_ok-coverings.ensures in
    let none = sym c.in-None.is ∙ c.first_empty.ensures in
    inr (covered_is c.args.schema.now c.args.maximal.now c.args.resolved.now c.as_slice-coverings.result.now all none, (few_disjuncts c.args.schema.now c.args.maximal.now c.args.resolved.now c.as_slice-coverings.result.now all c.disjunct_count-disjuncts.result c.disjunct_count-disjuncts.ensures c.if-disjuncts-gt64.false, many_rows c.args.schema.now c.args.maximal.now c.args.resolved.now c.as_slice-coverings.result.now all c.most_rows.result none c.most_rows.ensures c.if-most_rows-gt64.true))

pub choice_count-requires : goal.choice_count-requires
choice_count-requires c = subst (All (λ ms. length ms ≤ 128)) (sym (c.as_slice-coverings.ensures ∙ c.in_ok-coverings.ensures)) (coverings_few c.args.schema.now c.args.maximal.now c.args.resolved.now c.requires.few)

pub overflow_mul-disjuncts : goal.overflow_mul-disjuncts
overflow_mul-disjuncts c =
    let few : c.disjunct_count-disjuncts.result ≤ 64 = c.if-disjuncts-gt64.false in
    let many : c.choice_count.result ≤ 257 = (let e = c.choice_count.ensures in omega arith) in
    let product = mul-le c.disjunct_count-disjuncts.result c.choice_count.result 64 257 few many in
    omega arith

pub returns-then-disjuncts-choice_count-gt256-clause-refused : goal.returns-then-disjuncts-choice_count-gt256-clause-refused
returns-then-disjuncts-choice_count-gt256-clause-refused c =
    let all = c.as_slice-coverings.ensures ∙ c.in_ok-coverings.ensures in
    let none = sym c.in-None.is ∙ c.first_empty.ensures in
    let exact = exactly c.args.resolved.now c.disjunct_count-disjuncts.result c.disjunct_count-disjuncts.ensures c.if-disjuncts-gt64.false in
    let count = c.choice_count.ensures ∙ ap (λ xs. min (length (combinations xs)) 257) all in
    inr (covered_is c.args.schema.now c.args.maximal.now c.args.resolved.now c.as_slice-coverings.result.now all none, (few_disjuncts c.args.schema.now c.args.maximal.now c.args.resolved.now c.as_slice-coverings.result.now all c.disjunct_count-disjuncts.result c.disjunct_count-disjuncts.ensures c.if-disjuncts-gt64.false, few_rows c.args.schema.now c.args.maximal.now c.args.resolved.now c.as_slice-coverings.result.now all c.most_rows.result c.most_rows.ensures c.if-most_rows-gt64.false, many_terms c.args.schema.now c.args.maximal.now c.args.resolved.now c.disjunct_count-disjuncts.result c.choice_count.result exact count c.if-disjuncts-choice_count-gt256.true))

pub accepted_terms-requires-clause-few : goal.accepted_terms-requires-clause-few
accepted_terms-requires-clause-few c = c.requires.few

pub accepted_terms-requires-clause-accepted : goal.accepted_terms-requires-clause-accepted
accepted_terms-requires-clause-accepted c =
    let all = c.as_slice-coverings.ensures ∙ c.in_ok-coverings.ensures in
    let none = sym c.in-None.is ∙ c.first_empty.ensures in
    let exact = exactly c.args.resolved.now c.disjunct_count-disjuncts.result c.disjunct_count-disjuncts.ensures c.if-disjuncts-gt64.false in
    let count = c.choice_count.ensures ∙ ap (λ xs. min (length (combinations xs)) 257) all in
    record {
      covered = covered_is c.args.schema.now c.args.maximal.now c.args.resolved.now c.as_slice-coverings.result.now all none;
      few_disjuncts = few_disjuncts c.args.schema.now c.args.maximal.now c.args.resolved.now c.as_slice-coverings.result.now all c.disjunct_count-disjuncts.result c.disjunct_count-disjuncts.ensures c.if-disjuncts-gt64.false;
      few_rows = few_rows c.args.schema.now c.args.maximal.now c.args.resolved.now c.as_slice-coverings.result.now all c.most_rows.result c.most_rows.ensures c.if-most_rows-gt64.false;
      few_terms = few_terms c.args.schema.now c.args.maximal.now c.args.resolved.now c.disjunct_count-disjuncts.result c.choice_count.result exact count c.if-disjuncts-choice_count-gt256.false;
    }

pub accepted_terms-requires-clause-coverings : goal.accepted_terms-requires-clause-coverings
accepted_terms-requires-clause-coverings c = c.as_slice-coverings.ensures ∙ c.in_ok-coverings.ensures

pub returns-clause-terms : goal.returns-clause-terms
returns-clause-terms c = c.in_ok-accepted_terms.ensures

pub returns-clause-accepted : goal.returns-clause-accepted
returns-clause-accepted c =
    let all = c.as_slice-coverings.ensures ∙ c.in_ok-coverings.ensures in
    let none = sym c.in-None.is ∙ c.first_empty.ensures in
    let exact = exactly c.args.resolved.now c.disjunct_count-disjuncts.result c.disjunct_count-disjuncts.ensures c.if-disjuncts-gt64.false in
    let count = c.choice_count.ensures ∙ ap (λ xs. min (length (combinations xs)) 257) all in
    record {
      covered = covered_is c.args.schema.now c.args.maximal.now c.args.resolved.now c.as_slice-coverings.result.now all none;
      few_disjuncts = few_disjuncts c.args.schema.now c.args.maximal.now c.args.resolved.now c.as_slice-coverings.result.now all c.disjunct_count-disjuncts.result c.disjunct_count-disjuncts.ensures c.if-disjuncts-gt64.false;
      few_rows = few_rows c.args.schema.now c.args.maximal.now c.args.resolved.now c.as_slice-coverings.result.now all c.most_rows.result c.most_rows.ensures c.if-most_rows-gt64.false;
      few_terms = few_terms c.args.schema.now c.args.maximal.now c.args.resolved.now c.disjunct_count-disjuncts.result c.choice_count.result exact count c.if-disjuncts-choice_count-gt256.false;
    }

pub returns-clause-typed : goal.returns-clause-typed
returns-clause-typed c = all_typed c.args.schema.now c.args.maximal.now c.args.resolved.now c.keeps_its_rules.ensures c.requires.resolved _ c.in_ok-accepted_terms.ensures

pub returns-clause-expression : goal.returns-clause-expression
returns-clause-expression c = whole c.args.schema.now c.args.maximal.now c.args.resolved.now c.keeps_its_rules.ensures c.requires.resolved _ c.in_ok-accepted_terms.ensures
