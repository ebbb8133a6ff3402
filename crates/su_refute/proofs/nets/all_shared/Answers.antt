-- The lists so far are the places that the row shares with the rows so far, and one list more leaves them at their places.
use Rattle.std.proofs.Common.{[], arith}
use Rattle.su_base.proofs.Items.{length-pushed, get_or-pushed_each}
use Rattle.su_map.specs.Lists.{row_of}
use Rattle.su_refute.specs.inside.Nets.{AreShared}
use Rattle.su_refute.proofs.SharedPlaces.{shared_by}
use Rattle.su_refute.proofs.nets.all_shared.Goals as goal

pub loop-q-preserved : goal.loop-q-preserved
loop-q-preserved c =
    let t = c.args.t.now in let n = c.loop-q.q in
    record {
      one_each = length-pushed c.loop-q.lists c.push.new.self c.in_ok-shared.field-0 n c.in_ok-push.ensures.ok c.loop-q.invariant.one_each;
      shared = get_or-pushed_each (λ q. AreShared (row_of t c.args.row) (row_of t q)) [] c.loop-q.lists c.push.new.self c.in_ok-shared.field-0 n c.in_ok-push.ensures.ok c.loop-q.invariant.one_each c.loop-q.invariant.shared
          (shared_by (row_of t c.args.row) (row_of t n) _ _ c.in_ok-shared.field-0 c.row-cells.ensures.is c.row.ensures.is c.in_ok-shared.ensures);
    }

pub returns-clause-shared : goal.returns-clause-shared
returns-clause-shared c = λ q h. c.loop-q.invariant.shared q (omega arith)
