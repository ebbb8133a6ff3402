-- The whole query: its terms are the expression, and they are well typed.
use Rattle.std.proofs.Common.{◌↔◌, List}
use Rattle.std.specs.Prelude.{All}
use Rattle.std.specs.Ordering.{nat_cmp}
use Rattle.std.specs.FinSet.{FinSet}
use Rattle.std.proofs.lemmas.List.Elements.{All-from_recursion}
use Rattle.su_base.specs.declared.values.Value.{Value}
use Rattle.su_base.proofs.Items.{AllByRecursion-members}
use Rattle.su_tableau.specs.Kinds.{IsUniverse, IsTyped}
use Rattle.su_schema.specs.SchemaValue.{SchemaValue}
use Rattle.su_schema.specs.Valid.{IsValid}
use Rattle.su_schema.specs.Entries.{attribute_kinds}
use Rattle.su_query.specs.declared.resolving.Resolved.{Resolved}
use Rattle.su_query.specs.Ranges.{IsResolved}
use Rattle.su_steps.specs.declared.results.Term.{Term}
use Rattle.su_steps.specs.Expression.{cuts, Meets, InExpression}
use Rattle.su_steps.specs.Terms.{cases, AreTerms, InUnion}
use Rattle.su_steps.proofs.ResolvedQueries.{within}
use Rattle.su_steps.proofs.Union.{IsCase, of_cases, union_law, typed_of}
use Rattle.su_steps.proofs.Outs.{terms_of}

module _ (schema : SchemaValue) (maximal : List (FinSet nat_cmp)) (q : Resolved) (valid : IsValid schema) (resolved : IsResolved schema q) (ts : List Term) (terms : AreTerms schema maximal q ts) where
  pub whole : (universe : List (List Value)) (h : List Value) → IsUniverse (attribute_kinds schema) universe → Meets schema.fds universe → (InUnion ts universe h ↔ InExpression schema maximal q (cuts schema universe) h)
  whole universe h typed meets = union_law schema maximal q resolved (within schema valid) universe h typed meets ts terms

  pub all_typed : All (λ (t : Term). IsTyped (attribute_kinds schema) t.tableau) ts
  all_typed =
      All-from_recursion (λ (t : Term). IsTyped (attribute_kinds schema) t.tableau) ts
      (typed_of schema maximal q resolved (within schema valid) (cases schema maximal q) ts (AllByRecursion-members (IsCase schema maximal q resolved (within schema valid)) (cases schema maximal q) (of_cases schema maximal q resolved (within schema valid))) (terms_of schema maximal q ts terms))
