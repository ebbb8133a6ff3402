use Rattle.std.proofs.Common.{take}
use Rattle.std.specs.List.{AllZip}
use Rattle.su_min.specs.Reduction.{term_at}
use Rattle.su_sql.specs.TermSelects.{IsSelectOf}
use Rattle.su_sql.proofs.making.selects_for.Given as goal

abbrev pub invariant-loop-k : goal.invariant-loop-k
invariant-loop-k l = AllZip (λ k select. IsSelectOf l.db.schema (term_at l.minimals k) select) (take l.k-index l.kept) l.selects
