-- The values are at least as many as the symbols, so each variable has one.
use Rattle.std.proofs.Common.{arith}
use Rattle.su_tableau.proofs.Rows.{vars_up}
use Rattle.su_tableau_tests.proofs.tests.sends_rows_to_rows.Goals as goal

pub holds-requires : goal.holds-requires
holds-requires c = vars_up _ _ _ c.symbols.ensures (omega arith)
