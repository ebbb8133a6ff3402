use Rattle.std.proofs.Common.{◌≡◌, drop}
use Rattle.su_clash.specs.inside.Renames.{renamed}
use Rattle.su_clash.proofs.renaming.name_of.Given as goal

abbrev pub invariant-loop-rename : goal.invariant-loop-rename
invariant-loop-rename l = renamed (drop l.rename-index l.renames) l.name ≡ renamed l.renames l.x
