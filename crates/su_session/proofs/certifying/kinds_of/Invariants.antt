use Rattle.std.proofs.Common.{◌≡◌, take, length}
use Rattle.su_schema.specs.Entries.{attribute_kinds}
use Rattle.su_session.proofs.certifying.kinds_of.Given as goal

abbrev pub invariant-loop-a : goal.invariant-loop-a
invariant-loop-a l = (l.kinds ≡ take l.a (attribute_kinds l.schema)) × (l.a-end ≡ length l.schema.attributes)
