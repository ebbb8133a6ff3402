-- A schema without dependencies is valid where the schema is, and each universal relation meets what it lacks; so its terms are the expression over each.
use Rattle.std.proofs.Common.{◌↔◌, ℕ, List, [], arith}
use Rattle.std.specs.Ordering.{nat_cmp}
use Rattle.std.specs.FinSet.{FinSet}
use Rattle.std.proofs.lemmas.List.Elements.{All-nil}
use Rattle.su_base.proofs.Items.{Contains-nil}
use Rattle.su_base.specs.declared.values.Value.{Value}
use Rattle.su_schema.specs.SchemaValue.{SchemaValue}
use Rattle.su_schema.specs.Valid.{IsValid, IsDependency}
use Rattle.su_query.specs.declared.resolving.Resolved.{Resolved}
use Rattle.su_query.specs.Ranges.{IsResolved}
use Rattle.su_steps.specs.Expression.{Meets, cuts, InExpression}
use Rattle.su_steps.specs.Laws.{TermsAreTheExpression}
use Rattle.su_unmerged.specs.Unmerged.{without_dependencies}
use Rattle.su_unmerged.specs.Laws.{EqualitiesAloneMerge, UnmergedTermsAreTheExpression, TermsAnswerAsUnmerged}

pub equalities_alone : EqualitiesAloneMerge
equalities_alone schema os d label = (
  λ closed. closed.equalities,
  λ equalities. record { equalities = equalities; dependencies = λ f o p none. absurd (Contains-nil f none) },
)

valid_without : (schema : SchemaValue) → IsValid schema → IsValid (without_dependencies schema)
valid_without schema valid = record {
  attribute_names = valid.attribute_names;
  few_attributes = valid.few_attributes;
  relation_names = valid.relation_names;
  few_relations = valid.few_relations;
  relations = valid.relations;
  object_names = valid.object_names;
  few_objects = valid.few_objects;
  objects = λ k d low.
      let o = valid.objects k d low in
      record { relation = o.relation; stored = o.stored; some = o.some; joined = o.joined; ascending = o.ascending; apart = o.apart };
  few_fds = omega arith;
  fds = All-nil (IsDependency (without_dependencies schema));
  few_declared = valid.few_declared;
  declared = valid.declared;
}

resolved_without : (schema : SchemaValue) (q : Resolved) → IsResolved schema q → IsResolved (without_dependencies schema) q
resolved_without schema q r = record {
  few_variables = r.few_variables;
  few_outputs = r.few_outputs;
  few_places = r.few_places;
  places = λ k d low. let p = r.places k d low in record { variable = p.variable; attribute = p.attribute };
  outputs = r.outputs;
  cond = r.cond;
}

meets_none : (universe : List (List Value)) → Meets [] universe
meets_none universe f x y none = absurd (Contains-nil f none)

-- no dependency stands in the expression
expression_without : (schema : SchemaValue) (maximal : List (FinSet nat_cmp)) (q : Resolved) (family : ℕ → List (List Value)) (h : List Value) → InExpression (without_dependencies schema) maximal q family h ↔ InExpression schema maximal q family h
expression_without schema maximal q family h = (
  λ e. record { chosen = e.chosen; lists = e.lists; is_maximal = e.is_maximal; covering = e.covering; typed = e.typed; within = e.within; holds = e.holds; gives = e.gives },
  λ e. record { chosen = e.chosen; lists = e.lists; is_maximal = e.is_maximal; covering = e.covering; typed = e.typed; within = e.within; holds = e.holds; gives = e.gives },
)

pub unmerged_expression : TermsAreTheExpression → UnmergedTermsAreTheExpression
unmerged_expression law schema maximal q ts valid resolved are universe h typed =
    let same = law (without_dependencies schema) maximal q ts (valid_without schema valid) (resolved_without schema q resolved) are universe h typed (meets_none universe) in
    let other = expression_without schema maximal q (cuts schema universe) h in
    (λ u. other.0 (same.0 u), λ e. same.1 (other.1 e))

pub same_answers : TermsAreTheExpression → TermsAnswerAsUnmerged
same_answers law schema maximal q ts unmerged valid resolved are are_unmerged universe h typed meets =
    let merged = law schema maximal q ts valid resolved are universe h typed meets in
    let free = unmerged_expression law schema maximal q unmerged valid resolved are_unmerged universe h typed in
    (λ u. free.1 (merged.0 u), λ u. merged.1 (free.0 u))
