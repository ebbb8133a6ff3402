use Rattle.std.proofs.Common.{◌≡◌, ◌++◌, flat_map, take}
use Rattle.su_draw.specs.Svg.{note_text}
use Rattle.su_draw.proofs.writing.note_elements.Given as goal

abbrev pub invariant-loop-note : goal.invariant-loop-note
invariant-loop-note l = l.out.items ≡ l.fn.out.items ++ flat_map note_text (take l.note-index l.legend)
