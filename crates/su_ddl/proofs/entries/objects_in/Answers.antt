-- The names so far are those of the set's members below the next number, and each object adds its name where the set has it.
use Rattle.std.proofs.Common.{[]}
use Rattle.std.specs.FinSet.{contains}
use Rattle.std.proofs.lemmas.Option.{get_or_from_slice_get}
use Rattle.su_schema.specs.Entries.{object_names}
use Rattle.su_ddl.specs.ShownDefinitions.{name_at}
use Rattle.su_ddl.proofs.Lines.{one_wanted}
use Rattle.su_ddl.proofs.entries.objects_in.Goals as goal

pub loop-o-preserved : goal.loop-o-preserved
loop-o-preserved c =
    let names = object_names c.args.schema.now in
    one_wanted (contains c.args.set) (name_at names) c.loop-o.o c.object_name.result.now c.loop-o.names c.push_name_if.new.names
    (get_or_from_slice_get names c.loop-o.o c.object_name.result.now [] c.object_name.ensures) c.loop-o.invariant (rw c.contains.ensures at c.in_ok-push_name_if.ensures)
