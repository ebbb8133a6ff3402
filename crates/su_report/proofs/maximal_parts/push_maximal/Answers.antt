-- Either an order of ears is told; or there is none, and the core is told, with what meets in it and what breaks it.
use Rattle.std.proofs.Common.{◌++◌, List, MatchOption, length, subst, refl}
use Rattle.std.specs.Ordering.{nat_cmp}
use Rattle.std.specs.FinSet.{FinSet}
use Rattle.su_reduce.specs.Ears.{AreAcyclic}
use Rattle.su_advise.specs.Acyclic.{edges_of, IsTakenApart}
use Rattle.su_advise.specs.Breakers.{AreLeastBreakers, AreMany}
use Rattle.su_advise.specs.Cycles.{IsCore}
use Rattle.su_report.specs.CycleLines.{acyclic_line, cyclic_line, breaker_lines}
use Rattle.su_report.specs.MaximalParts.{AreMeeting}
use Rattle.su_report.proofs.LowAttributes.{attributes_low, core_within}
use Rattle.su_report.proofs.Texts.{three_added}
use Rattle.su_report.proofs.Told.{no_order}
use Rattle.su_report.proofs.maximal_parts.push_maximal.Goals as goal

pub push_meetings-requires-clause-within : goal.push_meetings-requires-clause-within
push_meetings-requires-clause-within c = core_within c.args.objects.now (length c.args.objects.now) c.args.set c.core_of-core.result c.core_of-core.ensures c.requires.within

pub least_breakers-requires-clause-low : goal.least_breakers-requires-clause-low
least_breakers-requires-clause-low c = λ a one.
    let w = (c.meeting_of.ensures a).0 one in
    attributes_low c.args.schema.now c.keeps_its_rules.ensures w.0 a (rw c.requires.objects at w.2.0)

pub returns-in-Some : goal.returns-in-Some
returns-in-Some c =
    let schema = c.args.schema.now in
    let order = c.in-Some.order in
    let apart : IsTakenApart c.args.objects.now c.args.set order = rw c.in-Some.is at c.in_ok-order.ensures in (
      acyclic_line schema c.args.k order,
      rw c.as_slice.ensures at c.in_ok-push_acyclic.ensures,
      (order, subst (λ (objects : List (FinSet nat_cmp)). IsTakenApart objects c.args.set order) c.requires.objects apart, refl),
    )

pub returns : goal.returns
returns c =
    let schema = c.args.schema.now in
    let k = c.args.k in
    let set = c.args.set in
    let core = c.core_of-core.result in
    let breakers = c.in_ok-breakers.breakers in
    let meeting = c.meeting_of.result in
    let meetings = c.in_ok-push_meetings.ensures in
    let cyclic : ¬ AreAcyclic (edges_of c.args.objects.now set) = no_order c.in_ok-order.field-0 (AreAcyclic (edges_of c.args.objects.now set) → ⊥) (IsTakenApart c.args.objects.now set) c.in_default.not-Some c.in_ok-order.ensures in (
      cyclic_line schema k core ++ meetings.0 ++ breaker_lines schema breakers,
      three_added c.args.out.now.items (cyclic_line schema k core) meetings.0 (breaker_lines schema breakers) c.push_cyclic.new.out.items c.push_meetings.new.out.items c.push_breakers.new.out.items c.in_ok-push_cyclic.ensures meetings.1 c.in_ok-push_breakers.ensures,
      record {
        cyclic = subst (λ (objects : List (FinSet nat_cmp)). ¬ AreAcyclic (edges_of objects set)) c.requires.objects cyclic;
        core = core;
        core_is = subst (λ (objects : List (FinSet nat_cmp)). IsCore objects set core) c.requires.objects c.core_of-core.ensures;
        meetings = meetings.0;
        meetings_are = meetings.2;
        meeting = meeting;
        meeting_is = subst (λ (objects : List (FinSet nat_cmp)). AreMeeting objects core meeting) c.requires.objects c.meeting_of.ensures;
        breakers = breakers;
        breakers_are = subst (λ (objects : List (FinSet nat_cmp)). MatchOption breakers (AreMany meeting) (AreLeastBreakers objects core meeting)) c.requires.objects c.in_ok-breakers.ensures;
        text_is = refl;
      },
    )
