use Rattle.std.proofs.Common.{◌≡◌, ◌++◌, take, map}
use Rattle.su_lex.specs.declared.meaning.Symbol.TheVariants.{Word}
use Rattle.su_query.specs.ShownConditions.{joined, shown_cond}
use Rattle.su_query.proofs.showing.+show.Given as goal

abbrev pub invariant-push_parts-loop-i : goal.invariant-push_parts-loop-i
invariant-push_parts-loop-i l = l.out ≡ l.fn.out ++ joined (Word l.word) (map shown_cond (take l.i l.parts))
