use Rattle.std.proofs.Common.{◌≡◌, ◌++◌, codes, flat_map, take}
use Rattle.sysu_place.specs.Replies.{kind_text}
use Rattle.sysu_place.proofs.lines.push_kinds.Given as goal

abbrev pub invariant-loop-sort : goal.invariant-loop-sort
invariant-loop-sort l = l.out.items ≡ l.fn.out.items ++ flat_map (λ sort. codes " " ++ kind_text sort) (take l.sort-index l.sorts)
