-- All terms of the first so far are settled by terms of the second; the first that isn't has its chased rows frozen.
use Rattle.std.proofs.Common.{◌≡◌, List, length, get_or, All, sym, ◌∙◌, subst, arith}
use Rattle.su_fd.specs.declared.dependencies.Fd.{Fd}
use Rattle.su_tableau.specs.Tableaux.{Tab}
use Rattle.su_chase.specs.Chased.{IsFdBelow}
use Rattle.su_chase.proofs.NamedAnswers.{chased_typed}
use Rattle.su_schema.specs.Entries.{attribute_kinds}
use Rattle.su_compare.specs.declared.settling.Settled.{Settled}
use Rattle.su_compare.specs.declared.settling.Settled.TheVariants.{By, Open}
use Rattle.su_compare.specs.Settled.{IsBy, IsUnsettled}
use Rattle.su_compare.specs.inside.Settlements.{IsSettlement}
use Rattle.su_compare.proofs.Settled.{tab_here}
use Rattle.su_compare.proofs.PlainTerms.{all_alike, fds_below, one_settled, earlier_settled}
use Rattle.su_compare.proofs.comparing.compared.Goals as goal

pub settle-requires-clause-alike : goal.settle-requires-clause-alike
settle-requires-clause-alike c = all_alike c.args.schema.now c.args.first.now c.args.second.now c.loop-i.i c.index-first-i.result c.requires.comparable c.loop-i-test.true

pub settle-requires-clause-below : goal.settle-requires-clause-below
settle-requires-clause-below c =
    let t = (get_or c.args.first.now c.loop-i.i c.index-first-i.result).tableau in
    let plain = c.requires.comparable.first_plain c.loop-i.i c.index-first-i.result c.loop-i-test.true in
    subst (λ (fds : List Fd). All (IsFdBelow t.width) fds) (sym c.fds.ensures) (fds_below c.args.schema.now t c.keeps_its_rules.ensures plain.typed.width)

pub show_apart-requires : goal.show_apart-requires
show_apart-requires c =
    let t = (get_or c.args.first.now c.loop-i.i c.index-first-i.result).tableau in
    let plain = c.requires.comparable.first_plain c.loop-i.i c.index-first-i.result c.loop-i-test.true in
    let left : IsUnsettled c.fds.result.now c.args.second.now t c.in-Open.c = subst (λ (s : Settled). IsSettlement c.fds.result.now c.args.second.now t s) c.in-Open.is c.in_ok-by.ensures.settled in
    chased_typed c.fds.result.now t c.in-Open.c left.chased (attribute_kinds c.args.schema.now) plain.typed

pub loop-i-preserved : goal.loop-i-preserved
loop-i-preserved c =
    let schema = c.args.schema.now in
    let second = c.args.second.now in
    let t = (get_or c.args.first.now c.loop-i.i c.index-first-i.result).tableau in
    let at = tab_here c.args.first.now c.loop-i.i c.index-first-i.result c.loop-i-test.true in
    let s = subst (λ (fds : List Fd). IsSettlement fds second t (By c.in-By.by)) c.fds.ensures (subst (λ (s : Settled). IsSettlement c.fds.result.now second t s) c.in-By.is c.in_ok-by.ensures.settled) in
    record {
      room_for = c.in_ok-by.ensures.room;
      settled = one_settled schema c.args.first.now second c.loop-i.i c.loop-i.reasons c.push.new.self c.in-By.by c.in_ok-push-in-By.ensures.ok
          (subst (λ (t : Tab). IsBy schema.fds second t c.in-By.by) (sym at) s)
          c.loop-i.invariant.settled;
    }

pub returns : goal.returns
returns c =
    let are = c.loop-i.invariant.settled in
    let end = c.loop-i.auto.i-end in
    let done = c.loop-i-test.false in
    let all : c.loop-i.i ≡ length c.args.first.now = omega arith in
    record { one_each = are.one_each ∙ all; each = λ k d low. are.each k d (omega arith) }

pub returns-in-Open : goal.returns-in-Open
returns-in-Open c =
    let schema = c.args.schema.now in
    let second = c.args.second.now in
    let t = (get_or c.args.first.now c.loop-i.i c.index-first-i.result).tableau in
    let at = tab_here c.args.first.now c.loop-i.i c.index-first-i.result c.loop-i-test.true in
    let s = subst (λ (fds : List Fd). IsSettlement fds second t (Open c.in-Open.c)) c.fds.ensures (subst (λ (s : Settled). IsSettlement c.fds.result.now second t s) c.in-Open.is c.in_ok-by.ensures.settled) in
    record {
      below = c.loop-i-test.true;
      earlier = earlier_settled schema c.args.first.now second c.loop-i.i c.loop-i.reasons c.loop-i.invariant.settled;
      chased = c.in-Open.c;
      unsettled = subst (λ (t : Tab). IsUnsettled schema.fds second t c.in-Open.c) (sym at) s;
      shown_is = c.in_ok-universe-in-Open.ensures;
    }
