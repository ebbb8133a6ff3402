use Rattle.std.proofs.Common.{◌≡◌, All, map, take}
use Rattle.su_schema.specs.Shown.{shown_object}
use Rattle.su_schema.specs.inside.Kept.{HasItsSet}
use Rattle.su_schema.proofs.copying.copy_objects.Given as goal

abbrev pub invariant-loop-o : goal.invariant-loop-o
invariant-loop-o l = record { copied : map shown_object l.copied.entries ≡ take l.o (map shown_object l.objects.entries); sets : All HasItsSet l.copied.entries }
