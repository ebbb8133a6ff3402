use Rattle.std.proofs.Common.{◌≡◌, map, take}
use Rattle.su_schema.specs.Shown.{shown_attribute}
use Rattle.su_schema.proofs.copying.copy_attributes.Given as goal

abbrev pub invariant-loop-a : goal.invariant-loop-a
invariant-loop-a l = map shown_attribute l.copied.entries ≡ take l.a (map shown_attribute l.attributes.entries)
