use Rattle.std.proofs.Common.{◌≡◌, take, map}
use Rattle.su_ddl.proofs.pairing.pairs.Given as goal

abbrev pub invariant-loop-i : goal.invariant-loop-i
invariant-loop-i l = record {
  attributes : map (λ p. p.attribute) l.pairs ≡ take l.i l.attributes;
  columns : map (λ p. p.column) l.pairs ≡ take l.i l.columns;
}
