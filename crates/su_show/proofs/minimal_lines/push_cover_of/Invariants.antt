use Rattle.std.proofs.Common.{◌≡◌, ◌==◌, drop, find}
use Rattle.su_show.specs.MinimalLines.{cover_of}
use Rattle.su_show.proofs.minimal_lines.push_cover_of.Given as goal

abbrev pub invariant-loop-cover : goal.invariant-loop-cover
invariant-loop-cover l = record {
  same : l.out.items ≡ l.fn.out.items;
  rest : find (λ c. c.dropped == l.number) (drop l.cover-index l.reduced.covers) ≡ cover_of l.reduced l.number;
}
