-- A variable below the length of the values has the value at its number.
use Rattle.su_tableau.proofs.Rows.{has_var_value}
use Rattle.su_tableau.proofs.valuations.has_value.Goals as goal

pub returns-in-Var : goal.returns-in-Var
returns-in-Var c = has_var_value c.args.values.now c.args.x.now c.in-Var.k _ _ _ c.in-Var.is c.get.ensures c.eq-in-Var.ensures
