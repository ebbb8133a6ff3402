-- A comparison is read in one way, so where its operator or its right side fails no other comparison is there.
use Rattle.std.proofs.Common.{◌≡◌, ap, Err}
use Rattle.std.proofs.lemmas.Result.{err_from_is_err_and}
use Rattle.su_lex.specs.declared.ends.LexEnd.TheVariants.{Syntax}
use Rattle.su_query.proofs.Items.{comparison_no_op, comparison_no_right}
use Rattle.su_query.proofs.conds.comparison.Goals as goal

pub returns-in_err-op-clause-syntax : goal.returns-in_err-op-clause-syntax
returns-in_err-op-clause-syntax c =
    let p = err_from_is_err_and c.from_residual-in_err-op.result c.from_residual-in_err-op.ensures.1 in
    rw (p.1, p.2) (λ s d r.
    let h : c.in_err-op.field-0.0 ≡ Syntax = cc in
    comparison_no_op c.args.reader.now c.operand.new.reader c.in_ok-left.left c.in_ok-left.ensures.found (c.in_err-op.ensures.syntax (ap Err h)) d r)

pub returns-in_err-right-clause-syntax : goal.returns-in_err-right-clause-syntax
returns-in_err-right-clause-syntax c =
    let p = err_from_is_err_and c.from_residual-in_err-right.result c.from_residual-in_err-right.ensures.1 in
    rw (p.1, p.2) (λ s d r.
    let h : c.in_err-right.field-0.0 ≡ Syntax = cc in
    comparison_no_right c.args.reader.now c.operand.new.reader c.operator.new.reader c.in_ok-left.left c.in_ok-op.op c.in_ok-left.ensures.found c.in_ok-op.ensures.found
    (c.in_err-right.ensures.syntax (ap Err h)) d r)
