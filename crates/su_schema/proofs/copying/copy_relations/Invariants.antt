use Rattle.std.proofs.Common.{◌≡◌, map, take}
use Rattle.su_schema.specs.Shown.{shown_relation}
use Rattle.su_schema.proofs.copying.copy_relations.Given as goal

abbrev pub invariant-loop-r : goal.invariant-loop-r
invariant-loop-r l = map shown_relation l.copied.entries ≡ take l.r (map shown_relation l.relations.entries)
