use Rattle.std.proofs.Common.{◌≡◌, ℕ, map, take, length}
use Rattle.std.specs.Prelude.{All}
use Rattle.su_base.specs.declared.values.Kind.{Kind}
use Rattle.su_tableau.specs.Kinds.{sym_kind}
use Rattle.su_chase.proofs.freezing.kinds_of.Given as goal

abbrev pub invariant-loop-k : goal.invariant-loop-k
invariant-loop-k l = record {
  each : length l.found ≡ l.k-index;
  kinds : (var_kind : ℕ → Kind) → All (λ row. map (sym_kind var_kind) row ≡ l.kinds) l.rows → l.found ≡ map var_kind (take l.k-index l.variables);
}
