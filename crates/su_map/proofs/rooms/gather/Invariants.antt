use Rattle.std.proofs.Common.{◌≡◌, ◌≤◌, take, map}
use Rattle.su_map.specs.Lists.{numbers_of}
use Rattle.su_map.specs.inside.Choices.{choice_of}
use Rattle.su_map.proofs.rooms.gather.Given as goal

abbrev pub invariant-loop-r : goal.invariant-loop-r
invariant-loop-r l = record { within : l.count ≤ l.r; is : take l.count l.list ≡ map (choice_of l.choice) (numbers_of l.mask l.r) }
