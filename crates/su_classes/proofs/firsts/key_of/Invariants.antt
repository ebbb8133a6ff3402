use Rattle.std.proofs.Common.{◌≡◌, map, take}
use Rattle.su_classes.specs.Items.{item_of}
use Rattle.su_classes.specs.Tables.{rep}
use Rattle.su_classes.proofs.firsts.key_of.Given as goal

abbrev pub invariant-loop-a : goal.invariant-loop-a
invariant-loop-a l = l.labels ≡ map (λ a. rep l.table (item_of l.row a)) (take l.a-index l.attributes)
