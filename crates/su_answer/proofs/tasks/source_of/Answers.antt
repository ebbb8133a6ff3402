-- The object's entry gives its relation and the column of each attribute; once all attributes are gone through, the columns are all of the source's.
use Rattle.std.proofs.Common.{◌≡◌, [], Some, map, get_or, take, sym, ap, ◌∙◌, arith}
use Rattle.std.specs.Prelude.{slice_get, option_map}
use Rattle.std.proofs.lemmas.List.{take_all}
use Rattle.std.proofs.lemmas.Option.{slice_get-get_or, slice_get-map, same_Some}
use Rattle.su_schema.specs.SchemaValue.{ObjectEntry}
use Rattle.su_schema.specs.Entries.{column_of}
use Rattle.su_answer.proofs.tasks.source_of.Goals as goal

pub returns : goal.returns
returns c =
    let none : ObjectEntry = record { name = []; relation = 0; links = [] } in
    let entry = get_or c.args.schema.now.objects c.args.object none in
    let at : slice_get c.args.schema.now.objects c.args.object ≡ Some entry = slice_get-get_or c.args.schema.now.objects c.args.object none c.requires.object in
    let relation = same_Some entry.relation c.object_relation.result (sym (slice_get-map (λ (o : ObjectEntry). o.relation) c.args.schema.now.objects c.args.object ∙ ap (option_map (λ (o : ObjectEntry). o.relation)) at) ∙ c.object_relation.ensures) in
    let all : take c.loop-a.a-index c.args.attributes.now ≡ c.args.attributes.now = take_all c.loop-a.a-index c.args.attributes.now (let t = c.loop-a-test.false in omega arith) in
    record {
      object = entry;
      is = at;
      relation = sym relation;
      columns = ap (map (column_of entry)) (sym all) ∙ c.loop-a.invariant entry at;
    }
