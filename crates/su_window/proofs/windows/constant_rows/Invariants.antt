use Rattle.std.proofs.Common.{◌↔◌, List, take, Contains}
use Rattle.su_base.specs.declared.values.Value.{Value}
use Rattle.su_tableau.specs.declared.symbols.Sym.{Sym}
use Rattle.su_window.specs.inside.Readings.{AreConstants}
use Rattle.su_window.proofs.windows.constant_rows.Given as goal

abbrev pub invariant-loop-row : goal.invariant-loop-row
invariant-loop-row l = (h : List Value) → Contains l.found h ↔ ((row : List Sym) × Contains (take l.row-index l.rows) row × AreConstants l.names row l.attributes h)
