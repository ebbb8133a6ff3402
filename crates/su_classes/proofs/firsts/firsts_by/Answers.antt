-- The notes tell, for each left side met so far, the first row with it; so each position so far is that of the first row that agrees with its own.
use Rattle.std.proofs.Common.{◌≡◌, [], length, subst, sym, arith}
use Rattle.std.specs.FinSet.{empty}
use Rattle.std.proofs.lemmas.List.{get_or_read}
use Rattle.su_classes.specs.declared.items.Placed.{Placed}
use Rattle.su_classes.specs.Items.{IsPlacedBelow}
use Rattle.su_classes.specs.Tables.{rep}
use Rattle.su_classes.specs.inside.Firsts.{row_at, noted_in, IsFirstNoted}
use Rattle.su_classes.proofs.Noted.{noted_more, firsts_all}
use Rattle.su_classes.proofs.firsts.firsts_by.Goals as goal

pub first_of-requires-clause-cells : goal.first_of-requires-clause-cells
first_of-requires-clause-cells c =
    let rows = c.args.rows.now in
    let n = c.loop-position.position in
    let d : Placed = record { has = empty; cells = [] } in
    let is : c.index-rows-position.result ≡ row_at rows n = get_or_read rows n c.index-rows-position.result c.loop-position-test.true c.index-rows-position.is d in
    subst (λ (row : Placed). IsPlacedBelow (length c.args.side.now.table.now) row) (sym is) (c.requires.cells n d c.loop-position-test.true)

pub loop-position-preserved : goal.loop-position-preserved
loop-position-preserved c =
    let rows = c.args.rows.now in
    let n = c.loop-position.position in
    let label = rep c.args.side.now.table.now in
    let old = noted_in c.loop-position.notes in
    let new = noted_in c.first_of.new.notes in
    let first = c.in_ok-first.first in
    let is : c.index-rows-position.result ≡ row_at rows n = get_or_read rows n c.index-rows-position.result c.loop-position-test.true c.index-rows-position.is (record { has = empty; cells = [] }) in
    let found : IsFirstNoted label c.args.side.now.fd.now c.args.side.now.left.now (row_at rows n) old new n first = subst (λ (row : Placed). IsFirstNoted label c.args.side.now.fd.now c.args.side.now.left.now row old new n first) is c.in_ok-first.ensures in
    rw c.in_ok-push.ensures.ok (noted_more label c.args.side.now.fd.now c.args.side.now.left.now rows old new n first c.loop-position.firsts c.loop-position.invariant found)

pub returns : goal.returns
returns c =
    firsts_all (rep c.args.side.now.table.now) c.args.side.now.fd.now c.args.side.now.left.now c.args.rows.now (length c.args.side.now.table.now) (noted_in c.loop-position.notes) c.loop-position.position c.loop-position.firsts c.requires.left c.requires.cells (omega arith) c.loop-position.invariant
