use Rattle.su_schema.specs.SetMembers.{numbers_in}
use Rattle.su_show.specs.Lines.{AreLines}
use Rattle.su_show.specs.inside.AddedTexts.{Adds}
use Rattle.su_report.specs.MaximalParts.{PairsOf}
use Rattle.su_report.proofs.pair_parts.push_used.Given as goal

abbrev pub invariant-loop-a : goal.invariant-loop-a
invariant-loop-a l = Adds (AreLines (PairsOf l.schema l.fn.used l.covers) (numbers_in l.fn.used l.a)) l.fn.out.items l.out.items
