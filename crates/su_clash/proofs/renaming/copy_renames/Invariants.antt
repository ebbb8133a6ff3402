use Rattle.std.proofs.Common.{◌≡◌, take}
use Rattle.su_clash.proofs.renaming.copy_renames.Given as goal

abbrev pub invariant-loop-rename : goal.invariant-loop-rename
invariant-loop-rename l = l.copies ≡ take l.rename-index l.renames
