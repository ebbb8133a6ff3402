-- A constant's code stands for its value from the moment that it is given; a variable needs no code.
use Rattle.std.proofs.Common.{refl}
use Rattle.std.proofs.lemmas.Option.{slice_get_within}
use Rattle.su_reduce.proofs.CodeExtensions.{code_is, extends_self}
use Rattle.su_exec.proofs.executing.term_of.Goals as goal

pub returns-in_ok-code-in-Const-clause-term : goal.returns-in_ok-code-in-Const-clause-term
returns-in_ok-code-in-Const-clause-term c =
    let code = c.in_ok-code-in-Const.code in
    rw c.in-Const.is (code, refl, slice_get_within c.code.new.self code c.in-Const.value c.in_ok-code-in-Const.ensures.code, code_is c.code.new.self code c.in-Const.value c.in_ok-code-in-Const.ensures.code)

pub returns-in_ok-code-in-Const-clause-codes : goal.returns-in_ok-code-in-Const-clause-codes
returns-in_ok-code-in-Const-clause-codes c = c.in_ok-code-in-Const.ensures.extends

pub returns-in-Var-clause-term : goal.returns-in-Var-clause-term
returns-in-Var-clause-term c = rw c.in-Var.is refl

pub returns-in-Var-clause-codes : goal.returns-in-Var-clause-codes
returns-in-Var-clause-codes c = extends_self c.args.codes.now
