-- A constant is noted always, and a variable exactly where its own entry says that it was met again.
use Rattle.std.proofs.Common.{refl}
use Rattle.su_tableau.specs.inside.Occurrences.{a_constant, a_variable}
use Rattle.su_tableau.proofs.VariableCounts.{noted_again}
use Rattle.su_tableau.proofs.occurrences.is_noted.Goals as goal

pub returns-in-Const : goal.returns-in-Const
returns-in-Const c = (λ yes. a_constant c.in-Const.field-0 c.in-Const.is, λ e. refl)

pub returns-in-Var : goal.returns-in-Var
returns-in-Var c = (λ yes. a_variable c.in-Var.k c.in-Var.is (c.is_again.ensures.0 yes), λ e. c.is_again.ensures.1 (noted_again c.args.times.now c.args.x.now c.in-Var.k c.in-Var.is e))
