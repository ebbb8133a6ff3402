-- The codes of the left term stay what they were when the right one's value gets its own.
use Rattle.std.proofs.Common.{refl}
use Rattle.su_reduce.proofs.CodeExtensions.{extends_then}
use Rattle.su_exec.proofs.Outputs.{term_up}
use Rattle.su_exec.proofs.executing.check_of.Goals as goal

pub returns-clause-check : goal.returns-clause-check
returns-clause-check c = record {
  left = term_up c.term_of.new.codes c.term_of-2.new.codes c.args.compared.now.left c.in_ok-left.left c.in_ok-right.ensures.codes c.in_ok-left.ensures.term;
  op = refl;
  right = c.in_ok-right.ensures.term;
}

pub returns-clause-codes : goal.returns-clause-codes
returns-clause-codes c = extends_then c.args.codes.now c.term_of.new.codes c.term_of-2.new.codes c.in_ok-left.ensures.codes c.in_ok-right.ensures.codes
