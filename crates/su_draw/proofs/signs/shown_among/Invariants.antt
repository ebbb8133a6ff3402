use Rattle.std.proofs.Common.{◌≡◌, ◌++◌, drop, filter}
use Rattle.std.specs.List.{list_any}
use Rattle.su_draw.specs.Signs.{shows}
use Rattle.su_draw.proofs.signs.shown_among.Given as goal

abbrev pub invariant-loop-sign : goal.invariant-loop-sign
invariant-loop-sign l = l.signs ++ filter (λ g. list_any (shows g) l.shapes) (drop l.sign-index l.all) ≡ filter (λ g. list_any (shows g) l.shapes) l.all
