-- Each cell so far has its number, and one number more leaves those before it at their places.
use Rattle.std.proofs.Common.{◌≡◌, ◌+◌, length, ap, ◌∙◌, arith}
use Rattle.std.proofs.lemmas.List.{length_push}
use Rattle.su_check.proofs.Boarded.{number_push}
use Rattle.su_check.proofs.boards.numbers_of.Goals as goal

pub loop-x-preserved : goal.loop-x-preserved
loop-x-preserved c = record {
  one_each = ap length c.in_ok-push.ensures.ok ∙ length_push c.loop-x.numbers c.number_at.result ∙ ap (λ n. n + 1) c.loop-x.invariant.one_each;
  cells = λ head are. number_push head c.args.variables.now c.args.row.now c.loop-x.numbers c.push.new.self c.loop-x.x-index c.x-item.result c.number_at.result c.loop-x-test.true c.x-item.is c.loop-x.invariant.one_each c.in_ok-push.ensures.ok (c.loop-x.invariant.cells head are) (c.number_at.ensures head are);
}

pub returns : goal.returns
returns c = λ head are.
    let end : c.loop-x.x-index ≡ length c.args.row.now = let l = c.loop-x-test.false in let m = c.loop-x.auto.x-index-end in omega arith in
    record { one_each = c.loop-x.invariant.one_each ∙ end; cells = λ k h. c.loop-x.invariant.cells head are k (omega arith) }
