use Rattle.su_map.specs.Lists.{numbers_of}
use Rattle.su_show.specs.Lines.{AreLines}
use Rattle.su_show.specs.inside.AddedTexts.{Adds}
use Rattle.su_show.specs.MinimalLines.{IsSourcesLine}
use Rattle.su_show.proofs.minimal_lines.push_all_sources.Given as goal

abbrev pub invariant-loop-row : goal.invariant-loop-row
invariant-loop-row l = Adds (AreLines (IsSourcesLine l.schema l.minimal) (numbers_of l.minimal.mask l.row)) l.fn.out.items l.out.items
