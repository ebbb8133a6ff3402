use Rattle.std.proofs.Common.{◌≡◌, ◌++◌, drop}
use Rattle.su_draw.specs.inside.Lay.{headings_from}
use Rattle.su_draw.proofs.explaining.Layout.headings.Given as goal

abbrev pub invariant-loop-number : goal.invariant-loop-number
invariant-loop-number l = l.helps ++ headings_from l.self.left l.self.heights l.self.lines.now l.number (drop l.number l.self.lines.now) ≡ headings_from l.self.left l.self.heights l.self.lines.now 0 l.self.lines.now
