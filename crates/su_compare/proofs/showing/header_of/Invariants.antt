use Rattle.std.proofs.Common.{◌≡◌, take}
use Rattle.su_schema.specs.Entries.{attribute_names}
use Rattle.su_compare.proofs.showing.header_of.Given as goal

abbrev pub invariant-loop-a : goal.invariant-loop-a
invariant-loop-a l = l.names ≡ take l.a (attribute_names l.schema)
