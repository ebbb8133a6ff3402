use Rattle.std.proofs.Common.{◌≡◌, ◌++◌, take}
use Rattle.su_lex.specs.Wordings.{numbers_text}
use Rattle.su_lex.proofs.spelling.push_numbers.Given as goal

abbrev pub invariant-loop-number : goal.invariant-loop-number
invariant-loop-number l = l.out.items ≡ l.fn.out.items ++ numbers_text (take l.number-index l.numbers)
