-- The rows so far have their columns' kinds, and one that is refused ends the test.
use Rattle.std.proofs.Common.{subst, sym, arith}
use Rattle.std.proofs.lemmas.List.Elements.{All-more, All-same}
use Rattle.std.proofs.lemmas.List.{take_all}
use Rattle.su_state.specs.DatabaseValue.{HasColumnKinds}
use Rattle.su_state.proofs.filling.are_typed.Goals as goal

pub loop-row-preserved : goal.loop-row-preserved
loop-row-preserved c = All-more (HasColumnKinds c.args.columns.now) c.args.rows.now c.loop-row.row-index c.row-item.result c.loop-row-test.true c.loop-row.invariant (subst (HasColumnKinds c.args.columns.now) c.row-item.is (grind (arith, c.check_row.ensures.ok, c.is_err.ensures, c.if-is_err.false)))

pub returns : goal.returns
returns c = All-same (HasColumnKinds c.args.columns.now) c.args.rows.now _ (sym (take_all c.loop-row.row-index c.args.rows.now (omega arith))) c.loop-row.invariant
