use Rattle.std.proofs.Common.{◌≡◌, ◌++◌, flat_map, take}
use Rattle.su_draw.specs.Svg.{help_text}
use Rattle.su_draw.proofs.writing.help_elements.Given as goal

abbrev pub invariant-loop-help : goal.invariant-loop-help
invariant-loop-help l = l.out.items ≡ l.fn.out.items ++ flat_map help_text (take l.help-index l.helps)
