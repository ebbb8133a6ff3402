use Rattle.std.proofs.Common.{◌≡◌, map, take}
use Rattle.su_draw.specs.Ears.{name_in_list}
use Rattle.su_draw.proofs.ears.names_in.Given as goal

abbrev pub invariant-loop-word : goal.invariant-loop-word
invariant-loop-word l = l.names ≡ map name_in_list (take l.word-index l.words)
