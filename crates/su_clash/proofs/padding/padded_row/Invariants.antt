use Rattle.std.proofs.Common.{◌≡◌, ◌+◌, map, get_or, None}
use Rattle.std.specs.List.{range_with_len}
use Rattle.su_window.specs.inside.Readings.{symbol_in}
use Rattle.su_clash.proofs.padding.padded_row.Given as goal

abbrev pub invariant-loop-a : goal.invariant-loop-a
invariant-loop-a l = l.cells ≡ map (λ a. symbol_in l.row (get_or l.columns a None) (l.first + a)) (range_with_len 0 l.a)
