use Rattle.std.proofs.Common.{◌≡◌, take, map}
use Rattle.su_ddl.proofs.spelling.attributes_of.Given as goal

abbrev pub invariant-loop-pair : goal.invariant-loop-pair
invariant-loop-pair l = l.names ≡ map (λ p. p.attribute) (take l.pair-index l.pairs)
