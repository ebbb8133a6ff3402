use Rattle.std.proofs.Common.{◌≡◌, ◌++◌, drop}
use Rattle.su_draw.specs.Things.{things_behind, things_in}
use Rattle.su_draw.proofs.things.add_line.Given as goal

abbrev pub invariant-loop-word : goal.invariant-loop-word
invariant-loop-word l = l.things ++ things_behind l.of l.line l.word (drop l.word l.of.words) ≡ l.fn.things ++ things_in l.line l.of
