use Rattle.std.proofs.Common.{◌≡◌, map, get_or}
use Rattle.std.specs.List.{range_with_len}
use Rattle.su_window.specs.Padded.{padded_row}
use Rattle.su_clash.specs.Clash.{reading_of}
use Rattle.su_clash.proofs.padding.padded_rows.Given as goal

abbrev pub invariant-loop-i : goal.invariant-loop-i
invariant-loop-i l = l.rows ≡ map (λ i. padded_row l.db i (get_or (map reading_of l.members) i (record { object = 0; position = 0 }))) (range_with_len 0 l.i)
