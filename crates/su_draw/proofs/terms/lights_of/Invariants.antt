use Rattle.std.proofs.Common.{◌≡◌, ◌++◌, drop}
use Rattle.su_draw.specs.inside.Lay.{lights_from}
use Rattle.su_draw.proofs.terms.lights_of.Given as goal

abbrev pub invariant-loop-number : goal.invariant-loop-number
invariant-loop-number l = l.lights ++ lights_from (drop l.number l.lines) ≡ lights_from l.lines
