use Rattle.std.proofs.Common.{◌≡◌, ◌∷◌, ◌++◌, take}
use Rattle.su_lex.specs.TokenForms.{doubled}
use Rattle.su_lex.proofs.spelling.push_quoted.Given as goal

abbrev pub invariant-loop-b : goal.invariant-loop-b
invariant-loop-b l = l.out.items ≡ l.fn.out.items ++ 39 ∷ doubled (take l.b-index l.content)
