-- The names so far are those of the set's members below the next number, and each attribute adds its name where the set has it.
use Rattle.std.proofs.Common.{[]}
use Rattle.std.specs.FinSet.{contains}
use Rattle.std.proofs.lemmas.Option.{get_or_from_slice_get}
use Rattle.su_schema.specs.Entries.{attribute_names}
use Rattle.su_ddl.specs.ShownDefinitions.{name_at}
use Rattle.su_ddl.proofs.Lines.{one_wanted}
use Rattle.su_ddl.proofs.entries.attributes_in.Goals as goal

pub loop-a-preserved : goal.loop-a-preserved
loop-a-preserved c =
    let names = attribute_names c.args.schema.now in
    one_wanted (contains c.args.set) (name_at names) c.loop-a.a c.attribute_name.result.now c.loop-a.names c.push_name_if.new.names
    (get_or_from_slice_get names c.loop-a.a c.attribute_name.result.now [] c.attribute_name.ensures) c.loop-a.invariant (rw c.contains.ensures at c.in_ok-push_name_if.ensures)
