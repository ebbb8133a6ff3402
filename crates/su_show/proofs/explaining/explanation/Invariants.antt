use Rattle.std.proofs.Common.{◌++◌}
use Rattle.std.specs.List.{range_with_len}
use Rattle.su_show.specs.Lines.{AreLines}
use Rattle.su_show.specs.inside.AddedTexts.{Adds}
use Rattle.su_show.specs.Explanations.{query_line, variables_line, IsTermText}
use Rattle.su_show.proofs.explaining.explanation.Given as goal

abbrev pub invariant-loop-i : goal.invariant-loop-i
invariant-loop-i l = Adds (AreLines (IsTermText l.schema l.resolved l.terms l.minimals l.reduced) (range_with_len 0 l.i)) (query_line l.query ++ variables_line l.resolved) l.out.items
