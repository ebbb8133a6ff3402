use Rattle.std.specs.Prelude.{filter, nat_lt}
use Rattle.std.specs.List.{range_with_len}
use Rattle.su_show.specs.Lines.{AreLines}
use Rattle.su_show.specs.inside.AddedTexts.{Adds}
use Rattle.su_report.specs.MaximalParts.{CoveredBy}
use Rattle.su_report.proofs.pair_parts.push_together.Given as goal

abbrev pub invariant-loop-b : goal.invariant-loop-b
invariant-loop-b l = Adds (AreLines (CoveredBy l.schema l.covers l.fn.a) (filter (λ b. nat_lt l.fn.a b) (range_with_len 0 l.b))) l.fn.out.items l.out.items
