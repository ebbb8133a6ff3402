-- The symbols so far lead to the state: at the end, or before what no choice takes, that tells what is wrong.
use Rattle.std.proofs.Common.{◌≡◌, ◌<◌, ℕ, None, List, sym, refl, ap, subst, arith, length}
use Rattle.std.proofs.lemmas.Bool.Decides.{nat_tests}
use Rattle.std.proofs.lemmas.List.{take_rest, nil_from_length}
use Rattle.su_lex.proofs.Gaps.{IsSolid}
use Rattle.su_faults.specs.declared.spots.State.{State}
use Rattle.su_faults.specs.inside.Steps.{IsNext}
use Rattle.su_faults.proofs.Loop.{Led, led_start, led_step, whole_at_end, fault_told, none_at_end}
use Rattle.su_faults.proofs.finding.first_fault.Goals as goal

pub loop-rest-init : goal.loop-rest-init
loop-rest-init c =
    let text = c.args.text.now in
    let blanks = c.after_blanks-rest.ensures in
    let stays : IsSolid c.after_blanks-rest.result.now = record { no_space = blanks.no_space; no_comment = blanks.no_comment } in
    subst (λ (s : State). Led c.args.language text s c.after_blanks-rest.result.now) (sym c.start-state.ensures) (led_start c.args.language text c.after_blanks-rest.result.now blanks.behind stays blanks.within)

pub before-place-requires : goal.before-place-requires
before-place-requires c = omega (arith, c.loop-rest.invariant.level)

pub next-requires : goal.next-requires
next-requires c =
    let some : 0 < length c.loop-rest.rest.now = grind (arith, nat_tests, c.loop-rest-test.ensures) in
    omega (arith, some, c.loop-rest.invariant.level, c.before-place.ensures.fits)

pub loop-rest-preserved : goal.loop-rest-preserved
loop-rest-preserved c =
    let next = subst (IsNext c.loop-rest.state c.loop-rest.rest.now) c.in-Some.is c.in_ok-behind.ensures in
    let blanks = c.after_blanks-rest-in-Some.ensures in
    let stays : IsSolid c.after_blanks-rest-in-Some.result.now = record { no_space = blanks.no_space; no_comment = blanks.no_comment } in
    led_step c.args.language c.args.text.now c.loop-rest.state c.loop-rest.rest.now (c.in-Some.behind, c.in-Some.n) c.after_blanks-rest-in-Some.result.now c.loop-rest.invariant next (rw take_rest at blanks.behind) stays (rw take_rest at blanks.within)

pub returns-in-None : goal.returns-in-None
returns-in-None c =
    let text = c.args.text.now in
    let rest = c.loop-rest.rest.now in
    let none = subst (IsNext c.loop-rest.state rest) c.in-None.is c.in_ok-behind.ensures in
    let some : 0 < length rest = grind (arith, nat_tests, c.loop-rest-test.ensures) in
    fault_told c.args.language text c.loop-rest.state rest c.in_ok-fault-in-None.field-0 c.loop-rest.invariant (λ nil. absurd (omega (arith, some, ap length nil))) none
    (omega (arith, c.in_ok-fault-in-None.ensures.place, c.before-place.ensures.place)) c.in_ok-fault-in-None.ensures.wanted

pub returns-then-may_end : goal.returns-then-may_end
returns-then-may_end c =
    let none : length c.loop-rest.rest.now ≡ 0 = grind (arith, nat_tests, c.loop-rest-test.ensures) in
    let ends = c.if-may_end.ensures.0 refl in
    whole_at_end c.args.language c.args.text.now c.loop-rest.state c.loop-rest.rest.now c.loop-rest.invariant (nil_from_length _ none) (rw c.choices.ensures at ends)

pub returns : goal.returns
returns c =
    let text = c.args.text.now in
    let rest = c.loop-rest.rest.now in
    let none : length rest ≡ 0 = grind (arith, nat_tests, c.loop-rest-test.ensures) in
    let nil = nil_from_length _ none in
    let ended = rw c.choices.ensures at c.if-may_end.ensures.1 in
    fault_told c.args.language text c.loop-rest.state rest c.in_ok-fault.field-0 c.loop-rest.invariant (λ _ h. let t = ended h in absurd (cc)) (subst (λ (v : List ℕ). IsNext c.loop-rest.state v None) (sym nil) (none_at_end c.loop-rest.state))
    (omega (arith, c.in_ok-fault.ensures.place, none)) c.in_ok-fault.ensures.wanted
