use Rattle.std.proofs.Common.{◌≡◌, ◌≤◌, ◌++◌, length, List}
use Rattle.su_lex.specs.Tokens.{Tokens, TokensAt}
use Rattle.su_lex.specs.declared.kinds.Token.{Token}
use Rattle.su_lex.proofs.Gaps.{IsSolid}
use Rattle.su_lex.proofs.lexer.tokens.Given as goal

abbrev pub invariant-loop-rest : goal.invariant-loop-rest
invariant-loop-rest l = record {
  within : length l.rest ≤ length l.text;
  solid : IsSolid l.rest;
  before : (more : List Token) → TokensAt (length l.text) l.rest more → Tokens l.text (l.tokens ++ more);
  only : (all : List Token) → Tokens l.text all → (more : List Token) × (all ≡ l.tokens ++ more) × TokensAt (length l.text) l.rest more;
}

abbrev pub decreases-loop-rest : goal.decreases-loop-rest
decreases-loop-rest l = length l.rest
