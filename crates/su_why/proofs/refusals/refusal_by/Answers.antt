-- Where the outputs don't clash with the row, they are pinned to it.
use Rattle.std.proofs.Common.{List, subst}
use Rattle.su_tableau.specs.declared.symbols.Sym.{Sym}
use Rattle.su_why.specs.Heads.{HaveNoClash}
use Rattle.su_why.proofs.refusals.refusal_by.Goals as goal

pub pinned_blame-requires-clause-no_clash : goal.pinned_blame-requires-clause-no_clash
pinned_blame-requires-clause-no_clash c = subst (λ (outputs : List Sym). HaveNoClash outputs c.args.row.now) c.as_slice-outputs.ensures c.in-None.ensures
