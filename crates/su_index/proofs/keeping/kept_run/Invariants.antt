use Rattle.std.proofs.Common.{◌≡◌, take}
use Rattle.su_index.specs.inside.Entries.{kept_entries}
use Rattle.su_index.proofs.keeping.kept_run.Given as goal

abbrev pub invariant-loop-entry : goal.invariant-loop-entry
invariant-loop-entry l = l.new.items ≡ kept_entries l.kept (take l.entry-index l.run)
