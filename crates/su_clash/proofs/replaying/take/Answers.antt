-- The rows are made one attribute after attribute, or two constants meet at the next.
use Rattle.std.proofs.Common.{arith}
use Rattle.std.proofs.lemmas.Option.{MatchOption-at_some, MatchOption-at_none}
use Rattle.su_clash.specs.inside.Renames.{OneAt, Makes, Meet}
use Rattle.su_clash.proofs.Made.{one_more, all_meet, all_made}
use Rattle.su_clash.proofs.replaying.take.Goals as goal

pub returns-in-Some : goal.returns-in-Some
returns-in-Some c =
    let set = c.args.set in
    let first = c.args.first.now in
    let second = c.args.second.now in
    let n = c.loop-a.a in
    let mid = c.loop-a.renames in
    all_meet set first second n c.args.renames.now mid c.loop-a.invariant c.in-Some.pair
    (MatchOption-at_some (Makes (OneAt set first second n) mid c.take_at.new.renames) (Meet (OneAt set first second n) mid) c.in-Some.pair c.in-Some.is c.in_ok-pair.ensures)

pub loop-a-preserved : goal.loop-a-preserved
loop-a-preserved c =
    let set = c.args.set in
    let first = c.args.first.now in
    let second = c.args.second.now in
    let n = c.loop-a.a in
    let mid = c.loop-a.renames in
    one_more set first second n c.args.renames.now mid c.loop-a.invariant c.take_at.new.renames
    (MatchOption-at_none (Makes (OneAt set first second n) mid c.take_at.new.renames) (Meet (OneAt set first second n) mid) c.in_default.is c.in_ok-pair.ensures)

pub returns : goal.returns
returns c =
    let done = c.loop-a-test.false in
    let same = c.requires.lengths in
    all_made c.args.set c.args.first.now c.args.second.now c.loop-a.a c.args.renames.now c.loop-a.renames (omega (arith, done)) (omega (arith, done, same)) c.loop-a.invariant
