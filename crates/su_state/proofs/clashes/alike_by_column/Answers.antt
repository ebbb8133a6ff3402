-- A row that has the values in all the columns has that in one of them, and none of the rows met so far agrees; so at the end no row does.
use Rattle.std.proofs.Common.{◌≡◌, refl, arith}
use Rattle.std.proofs.lemmas.Bool.{false≢true}
use Rattle.su_state.specs.inside.Sides.{row_at}
use Rattle.su_state.proofs.Alike.{none_more, none_at_all}
use Rattle.su_state.proofs.Least.{row_there}
use Rattle.su_state.proofs.clashes.alike_by_column.Goals as goal

pub loop-k-preserved : goal.loop-k-preserved
loop-k-preserved c =
    let is : row_at c.args.table.now.rows c.matched-position.result ≡ c.row.result.now = row_there c.args.table.now.rows c.matched-position.result c.row.result.now c.row.ensures in
    none_more c.args.columns c.args.table.now.rows c.args.row.now c.fewest-column.result c.get-value.result.now c.loop-k.k c.matched-position.result c.matched-position.ensures c.loop-k.invariant (rw is (λ same. false≢true (c.if-agree.ensures.1 same)))

pub returns-then-agree : goal.returns-then-agree
returns-then-agree c =
    let is : row_at c.args.table.now.rows c.matched-position.result ≡ c.row.result.now = row_there c.args.table.now.rows c.matched-position.result c.row.result.now c.row.ensures in
    (c.matched-position.ensures.within, rw is (c.if-agree.ensures.0 refl))

pub returns : goal.returns
returns c =
    none_at_all c.args.columns c.args.table.now.rows c.args.row.now c.fewest-column.result c.get-value.result.now c.get-value.ensures c.fewest-column.ensures.column c.loop-k.k (omega (arith, c.matching-k-end.ensures)) c.loop-k.invariant
