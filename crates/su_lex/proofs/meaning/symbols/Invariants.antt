use Rattle.std.proofs.Common.{◌≡◌, ◌++◌, length, List}
use Rattle.su_lex.specs.declared.meaning.Symbol.{Symbol}
use Rattle.su_lex.proofs.Gaps.{IsSolid}
use Rattle.su_lex.proofs.Written.{SymbolsAt}
use Rattle.su_lex.proofs.meaning.symbols.Given as goal

abbrev pub invariant-loop-rest : goal.invariant-loop-rest
invariant-loop-rest l = record {
  solid : IsSolid l.rest;
  before : (more : List Symbol) → SymbolsAt l.rest more → SymbolsAt l.text (l.symbols ++ more);
  only : (all : List Symbol) → SymbolsAt l.text all → (more : List Symbol) × (all ≡ l.symbols ++ more) × SymbolsAt l.rest more;
}

abbrev pub decreases-loop-rest : goal.decreases-loop-rest
decreases-loop-rest l = length l.rest
