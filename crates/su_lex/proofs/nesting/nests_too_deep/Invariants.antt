use Rattle.std.proofs.Common.{◌≡◌, ◌≤◌, ℕ, take}
use Rattle.std.specs.List.{count_by}
use Rattle.su_lex.specs.Nesting.{IsDeepAt, is_open, is_close}
use Rattle.su_lex.proofs.nesting.nests_too_deep.Given as goal

abbrev pub invariant-loop-symbol : goal.invariant-loop-symbol
invariant-loop-symbol l = record {
  opened : l.opened ≡ count_by is_open (take l.symbol-index l.symbols);
  closed : l.closed ≡ count_by is_close (take l.symbol-index l.symbols);
  shallow : (k : ℕ) → k ≤ l.symbol-index → ¬ (IsDeepAt l.symbols k);
}
