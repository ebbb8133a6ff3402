-- There are as many minimals as terms, and of an accepted query there are few of these; terms, minimals and the reduction are each made from the one before.
use Rattle.std.proofs.Common.{List, length, ap, subst, arith}
use Rattle.std.specs.List.{AllZip}
use Rattle.su_schema.specs.SchemaValue.{SchemaValue}
use Rattle.su_min.specs.Kept.{Minimised}
use Rattle.su_min.specs.Reduction.{IsReduced}
use Rattle.su_steps.specs.declared.results.Term.{Term}
use Rattle.su_steps.specs.Terms.{AreTerms}
use Rattle.su_answer.specs.Prepared.{IsMinimisedOf}
use Rattle.su_base.proofs.Items.{AllZip-length}
use Rattle.su_answer.proofs.Minimals.{few_terms}
use Rattle.su_answer.proofs.making.prepare.Goals as goal

pub reduce-requires-after_bounds : goal.reduce-requires-after_bounds
reduce-requires-after_bounds g c κs within =
    let terms : List Term = c.in_ok-terms.terms in
    let minimals : List Minimised = c.in_ok-minimals.minimals in
    let zip : AllZip (λ (t : Term) (m : Minimised). IsMinimisedOf t.tableau m) terms minimals = subst (λ (ts : List Term). AllZip (λ (t : Term) (m : Minimised). IsMinimisedOf t.tableau m) ts minimals) c.as_slice.ensures c.in_ok-minimals.ensures in
    let few = few_terms c.schema.result.now c.args.maximal.now c.args.resolved.now terms c.in_ok-terms.ensures.terms c.in_ok-terms.ensures.accepted in
    let count = AllZip-length (λ t m. IsMinimisedOf t.tableau m) terms minimals zip in
    let l = ap (λ (ms : List Minimised). length ms) c.as_slice-2.ensures in
    omega (arith, few, count, l)

pub returns-clause-prepared : goal.returns-clause-prepared
returns-clause-prepared g c = record {
  terms = subst (λ (s : SchemaValue). AreTerms s c.args.maximal.now c.args.resolved.now c.in_ok-terms.terms) c.schema.ensures c.in_ok-terms.ensures.terms;
  minimals = subst (λ (ts : List Term). AllZip (λ (t : Term) (m : Minimised). IsMinimisedOf t.tableau m) ts c.in_ok-minimals.minimals) c.as_slice.ensures c.in_ok-minimals.ensures;
  reduced = subst (λ (ms : List Minimised). IsReduced ms c.in_ok-reduced.reduced) c.as_slice-2.ensures c.in_ok-reduced.ensures.reduced;
}
