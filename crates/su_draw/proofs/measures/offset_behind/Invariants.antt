use Rattle.std.proofs.Common.{◌≡◌, drop}
use Rattle.su_draw.specs.inside.Lay.{offset_from}
use Rattle.su_draw.proofs.measures.offset_behind.Given as goal

abbrev pub invariant-loop-word : goal.invariant-loop-word
invariant-loop-word l = offset_from l.offset (drop l.word-index l.words) ≡ offset_from 0 l.words
