use Rattle.std.proofs.Common.{[], take}
use Rattle.su_show.specs.Lines.{AreLines}
use Rattle.su_show.specs.inside.AddedTexts.{Adds}
use Rattle.su_dangling_text.specs.Lines.{LinesOf}
use Rattle.su_dangling_text.proofs.telling.dangling_text.Given as goal

abbrev pub invariant-loop-scope : goal.invariant-loop-scope
invariant-loop-scope l = Adds (AreLines (LinesOf l.db) (take l.scope-index l.scopes)) [] l.out.items
