-- The rows are those of the objects, and the outputs the object's attributes.
use Rattle.std.proofs.Common.{ap, ◌∙◌}
use Rattle.su_dangling.specs.inside.Tasks.{members_of, variables_of}
use Rattle.su_dangling.proofs.Objects.{attributes_answered}
use Rattle.su_dangling.proofs.tasks.join_of.Goals as goal

pub returns : goal.returns
returns c =
    let schema = c.args.schema.now in
    record {
      rows = c.in_ok-rows.ensures;
      outputs = c.in_ok-outputs.ensures ∙ ap variables_of (c.as_slice.ensures ∙ c.in_ok-attributes.ensures ∙ ap (members_of schema) (attributes_answered schema c.args.object c.object_attributes.result c.object_attributes.ensures));
      comparisons = c.new-comparisons.ensures;
    }
