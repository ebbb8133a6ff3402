-- Each mark so far tells whether its row was marked and has one of the keys; a mark more leaves those before it at their places.
use Rattle.std.proofs.Common.{◌↔◌, ℕ, Bool, [], false, IsTrue, get_or, arith}
use Rattle.su_base.proofs.Items.{get_or-push_each, length-push}
use Rattle.su_reduce.specs.Sheets.{pick}
use Rattle.su_reduce.specs.inside.Partnered.{HasKey}
use Rattle.su_reduce.proofs.partners.marks_by.Goals as goal

pub loop-i-preserved : goal.loop-i-preserved
loop-i-preserved c =
    let side = c.args.side.now in
    let keys = c.args.keys.now in
    let i = c.loop-i.i in
    let inv = c.loop-i.invariant in
    let has : Bool = c.in_ok-has.has in
    rw c.in_ok-push.ensures.items (record {
      long = length-push c.loop-i.marks.items has i inv.long;
      each = get_or-push_each (λ (p : ℕ) (m : Bool). IsTrue m ↔ (IsTrue (get_or side.marks.now p false) × HasKey keys (pick side.key.now (get_or side.rows.now.rows p [])))) false c.loop-i.marks.items has i inv.long inv.each c.in_ok-has.ensures;
    })

pub returns-clause-exact : goal.returns-clause-exact
returns-clause-exact c =
    let done = c.loop-i-test.false in
    let len = c.len-i-end.ensures in
    λ i l. c.loop-i.invariant.each i (omega (arith, done, len, l))
