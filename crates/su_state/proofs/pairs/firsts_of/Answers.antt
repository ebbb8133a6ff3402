-- The notes tell for each left part met so far the first row with it, so each position so far is that of the first row with the same left part.
use Rattle.std.proofs.Common.{◌≡◌, List, [], subst, arith}
use Rattle.std.proofs.lemmas.List.{get_or_read}
use Rattle.su_base.specs.declared.values.Value.{Value}
use Rattle.su_state.specs.inside.Sides.{row_at}
use Rattle.su_state.specs.inside.Parts.{noted_in, Notes}
use Rattle.su_state.proofs.Paired.{noted_more, firsts_all}
use Rattle.su_state.proofs.pairs.firsts_of.Goals as goal

pub loop-position-preserved : goal.loop-position-preserved
loop-position-preserved c =
    let rows = c.args.rows.now in
    let n = c.loop-position.position in
    let old = noted_in c.loop-position.notes in
    let new = noted_in c.first_with.new.notes in
    let is : c.index-rows-position.result ≡ row_at rows n = get_or_read rows n c.index-rows-position.result c.loop-position-test.true c.index-rows-position.is [] in
    let notes : Notes c.args.left old new (row_at rows n) n c.in_ok-first.first = subst (λ (row : List Value). Notes c.args.left old new row n c.in_ok-first.first) is c.in_ok-first.ensures in
    rw c.in_ok-push.ensures.ok (noted_more c.args.left rows old new n c.in_ok-first.first c.loop-position.firsts c.loop-position.invariant notes)

pub returns : goal.returns
returns c = firsts_all c.args.left c.args.rows.now (noted_in c.loop-position.notes) c.loop-position.position c.loop-position.firsts (omega arith) c.loop-position.invariant
