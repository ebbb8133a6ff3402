-- How many variables and places a query mentions, and which these are.
use Rattle.std.proofs.Common.{◌≡◌, ◌≤◌, ◌*◌, ℕ, Option, List, [], ◌∷◌, length, map, ap, ◌∙◌, arith, length-append}
use Rattle.std.specs.List.{flat_map}
use Rattle.std.proofs.lemmas.List.{length-map}
use Rattle.su_schema.specs.SchemaValue.{SchemaValue}
use Rattle.su_query.specs.declared.refs.Ref.{Ref}
use Rattle.su_query.specs.declared.refs.NamedOperand.{NamedOperand}
use Rattle.su_query.specs.declared.refs.NamedOperand.TheVariants as operand
use Rattle.su_query.specs.declared.places.Place.{Place}
use Rattle.su_query.specs.declared.scopes.Scope.TheVariants.{Attributes}
use Rattle.su_query.specs.declared.statements.Query.{Query}
use Rattle.su_query.specs.declared.conditions.Comparison.{Comparison}
use Rattle.su_where.specs.Truth.{comparisons_of}
use Rattle.su_query.specs.Refs.{refs_in, refs_beside, refs_of}
use Rattle.su_query.specs.Mentions.{all_refs, variables_of}
use Rattle.su_query.specs.Limits.{AreFew}
use Rattle.su_query.specs.Places.{place_in, same_place, places_of, places_in, number_in}
use Rattle.su_query.proofs.FirstMentions.{mentions-append, first_mentions-few}

refs_in-few : (a : NamedOperand) → length (refs_in a) ≤ 1
refs_in-few (operand.Ref ref) = omega arith
refs_in-few (operand.Const v) = omega arith

pub refs-few : (cs : List Comparison) → length (flat_map refs_beside cs) ≤ 2 * length cs
refs-few [] = omega arith
refs-few (c ∷ cs) =
    omega (arith, refs-few cs, refs_in-few c.left, refs_in-few c.right, length-append (refs_in c.left) (refs_in c.right), length-append (refs_beside c) (flat_map refs_beside cs))

-- a query within its limits has at most 8 variables and at most 640 places
pub few_variables : (q : Query) → AreFew q.outputs q.cond → length (variables_of q) ≤ 8
few_variables q few = omega (arith, few.few_variables, ap length (mentions-append [] q.outputs (refs_of q.cond)))

pub few_places : (schema : SchemaValue) (vs : List (Option (List ℕ))) (q : Query) → AreFew q.outputs q.cond → length (places_of schema vs [] (all_refs q)) ≤ 640
few_places schema vs q few =
    omega (arith, first_mentions-few same_place [] (map (place_in schema vs) (all_refs q)), length-map (all_refs q) (place_in schema vs), length-append q.outputs (refs_of q.cond), refs-few (comparisons_of q.cond), few.few_outputs, few.few_comparisons)

pub few_refs : (q : Query) → AreFew q.outputs q.cond → length (all_refs q) ≤ 640
few_refs q few = omega (arith, length-append q.outputs (refs_of q.cond), refs-few (comparisons_of q.cond), few.few_outputs, few.few_comparisons)

-- places and numbers that were made of these refs are those of the query
module _ (schema : SchemaValue) (q : Query) (refs : List Ref) (all : refs ≡ all_refs q) (vs : List (Option (List ℕ))) (variables : vs ≡ variables_of q) (ps : List Place) (places : ps ≡ places_of schema vs [] refs) where
  pub places_are : ps ≡ places_in schema q
  places_are = places ∙ ap (λ v. places_of schema v [] refs) variables ∙ ap (places_of schema (variables_of q) []) all

  pub numbers_are : (ns : List ℕ) → ns ≡ map (number_in schema Attributes vs ps) refs → ns ≡ map (number_in schema Attributes (variables_of q) (places_in schema q)) (all_refs q)
  numbers_are ns is =
      is ∙ ap (λ v. map (number_in schema Attributes v ps) refs) variables ∙ ap (λ p. map (number_in schema Attributes (variables_of q) p) refs) places_are
      ∙ ap (map (number_in schema Attributes (variables_of q) (places_in schema q))) all
