-- The object's entry gives its relation and the column of each of its attributes.
use Rattle.std.proofs.Common.{◌≡◌, ℕ, List, [], ◌∷◌, ◌++◌, Some, All, map, get_or, sym, ap, subst, ◌∙◌}
use Rattle.std.specs.Prelude.{IsTrue, slice_get, option_map}
use Rattle.std.specs.FinSet.{contains}
use Rattle.std.proofs.lemmas.Option.{slice_get-get_or, slice_get-map, same_Some}
use Rattle.su_schema.specs.SchemaValue.{ObjectEntry}
use Rattle.su_schema.specs.Entries.{column_of}
use Rattle.su_schema.specs.Cuts.{attributes_at}
use Rattle.su_schema.proofs.Entries.{blank_object}
use Rattle.su_exec.specs.declared.tasks.Source.{Source}
use Rattle.su_dangling.specs.inside.Tasks.{members_of, variables_of}
use Rattle.su_dangling.proofs.Objects.{all_numbers, attributes_answered, attributes_by}
use Rattle.su_dangling.proofs.tasks.row_for.Goals as goal

pub columns_of-requires-clause-own : goal.columns_of-requires-clause-own
columns_of-requires-clause-own c =
    let schema = c.args.schema.now in
    let own = attributes_at schema c.args.object in
    let eq = c.as_slice-attributes.ensures ∙ c.in_ok-attributes.ensures ∙ ap (members_of schema) (attributes_answered schema c.args.object c.object_attributes.result c.object_attributes.ensures) in
    subst (λ (xs : List ℕ). All (λ a. IsTrue (contains own a)) xs) (sym eq) (all_numbers own _)

pub returns : goal.returns
returns c =
    let schema = c.args.schema.now in
    let entry = get_or schema.objects c.args.object blank_object in
    let at : slice_get schema.objects c.args.object ≡ Some entry = slice_get-get_or schema.objects c.args.object blank_object c.requires in
    let eq = c.as_slice-attributes.ensures ∙ c.in_ok-attributes.ensures ∙ ap (members_of schema) (attributes_answered schema c.args.object c.object_attributes.result c.object_attributes.ensures ∙ attributes_by schema c.args.object entry at) in
    let relation = same_Some entry.relation c.object_relation-relation.result (sym (slice_get-map (λ (o : ObjectEntry). o.relation) schema.objects c.args.object ∙ ap (option_map (λ (o : ObjectEntry). o.relation)) at) ∙ c.object_relation-relation.ensures) in
    record {
      entry = entry;
      is = at;
      cells = c.in_ok-cells.ensures ∙ ap variables_of eq;
      source = record { relation = c.object_relation-relation.result; columns = c.in_ok-columns.columns };
      sources = c.in_ok-push.ensures.ok ∙ ap (λ (xs : List Source). xs ++ record { relation = c.object_relation-relation.result; columns = c.in_ok-columns.columns } ∷ []) c.new-sources.ensures;
      relation = sym relation;
      columns = ap (map (column_of entry)) (sym eq) ∙ c.in_ok-columns.ensures entry at;
    }
