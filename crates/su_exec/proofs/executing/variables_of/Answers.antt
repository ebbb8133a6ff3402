-- The variables so far are those of the terms so far.
use Rattle.std.proofs.Common.{arith}
use Rattle.su_exec.proofs.Outputs.{vars_step}
use Rattle.su_exec.proofs.executing.variables_of.Goals as goal

pub loop-term-preserved : goal.loop-term-preserved
loop-term-preserved c =
    let test = c.loop-term-test.true in
    vars_step c.args.terms.now c.loop-term.term-index _ c.loop-term.vars.items c.add_variable.new.vars.items (omega arith) c.loop-term.invariant c.in_ok-add_variable.ensures
