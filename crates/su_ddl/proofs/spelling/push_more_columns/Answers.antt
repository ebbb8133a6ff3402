-- What is added are the columns so far, each with its comma.
use Rattle.su_ddl.specs.Grammar.{column_symbols}
use Rattle.su_ddl.proofs.Lines.{one_item}
use Rattle.su_ddl.proofs.spelling.push_more_columns.Goals as goal

pub loop-column-preserved : goal.loop-column-preserved
loop-column-preserved c =
    one_item column_symbols c.args.columns.now c.loop-column.column-index c.column-item.result c.column-item.result c.args.out.now c.loop-column.out c.push_sign.new.out c.push_column.new.out c.loop-column-test.true
    c.column-item.is c.loop-column.invariant c.in_ok-push_sign.ensures.ok c.in_ok-push_column.ensures
