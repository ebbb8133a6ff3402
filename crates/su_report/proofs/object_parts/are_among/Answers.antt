-- Each of the sets so far is one of the others, and the next one is too, or not.
use Rattle.std.proofs.Common.{◌∙◌, Contains, sym, refl, arith}
use Rattle.std.proofs.lemmas.Bool.{false≢true, true≢false}
use Rattle.su_report.proofs.Members.{front_none, front_cases, front_all, read_member}
use Rattle.su_report.proofs.object_parts.are_among.Goals as goal

pub loop-set-init : goal.loop-set-init
loop-set-init c = λ x there. absurd (front_none c.args.sets.now x there)

pub loop-set-preserved : goal.loop-set-preserved
loop-set-preserved c = front_cases c.args.sets.now c.loop-set.set-index c.set-item.result c.loop-set-test.true c.set-item.is (Contains c.args.others.now) c.loop-set.invariant (c.is_among.ensures.0 c.if-not-is_among.false)

pub returns-then-not-is_among : goal.returns-then-not-is_among
returns-then-not-is_among c = (
  λ t. absurd (false≢true t),
  λ all. absurd (true≢false (sym (c.is_among.ensures.1 (all c.set-item.result (read_member c.args.sets.now c.loop-set.set-index c.set-item.result c.loop-set-test.true c.set-item.is))) ∙ c.if-not-is_among.true)),
)

pub returns : goal.returns
returns c = (λ t x there. c.loop-set.invariant x (front_all c.args.sets.now c.loop-set.set-index x (let t = c.loop-set-test.false in omega arith) there), λ all. refl)
