-- Free values are new and differ, so they name the variables one to one; the frozen rows are the rows read by a valuation, and each symbol can be read back from its value.
use Rattle.std.proofs.Common.{ℕ, List, Contains, subst, ◌∙◌}
use Rattle.su_chase.proofs.FrozenValues.{freeze_told}
use Rattle.su_chase.proofs.freezing.freeze.Goals as goal

pub kinds_of-requires-clause-occur : goal.kinds_of-requires-clause-occur
kinds_of-requires-clause-occur c = λ k h. (c.in_ok-variables.ensures.all k).0 (subst (λ (xs : List ℕ). Contains xs k) c.as_slice-variables.ensures h)

pub returns-clause-frozen : goal.returns-clause-frozen
returns-clause-frozen c = (freeze_told c.args.kinds.now c.args.t.now c.args.avoid.now c.keeps_its_rules.ensures.valid c.requires.typed c.as_slice-rows.result.now (c.as_slice-rows.ensures ∙ c.in_ok-rows.ensures) c.as_slice-variables.result.now c.in_ok-variables.variables c.as_slice-variables.ensures c.in_ok-variables.ensures.all c.in_ok-variables.ensures.ascending c.as_slice.result.now c.in_ok-variable_kinds.variable_kinds c.as_slice.ensures c.in_ok-variable_kinds.ensures.kinds c.as_slice-2.result.now c.in_ok-avoid.avoid c.as_slice-2.ensures c.in_ok-avoid.ensures.members c.as_slice-values.result.now c.in_ok-values.values c.as_slice-values.ensures c.in_ok-values.ensures.each c.in_ok-values.ensures.free c.head.result.now c.head.ensures (record { universe = c.in_ok-universe.universe; head = c.in_ok-head.head }) c.in_ok-universe.ensures c.in_ok-head.ensures).0

pub returns-clause-universe : goal.returns-clause-universe
returns-clause-universe c = (freeze_told c.args.kinds.now c.args.t.now c.args.avoid.now c.keeps_its_rules.ensures.valid c.requires.typed c.as_slice-rows.result.now (c.as_slice-rows.ensures ∙ c.in_ok-rows.ensures) c.as_slice-variables.result.now c.in_ok-variables.variables c.as_slice-variables.ensures c.in_ok-variables.ensures.all c.in_ok-variables.ensures.ascending c.as_slice.result.now c.in_ok-variable_kinds.variable_kinds c.as_slice.ensures c.in_ok-variable_kinds.ensures.kinds c.as_slice-2.result.now c.in_ok-avoid.avoid c.as_slice-2.ensures c.in_ok-avoid.ensures.members c.as_slice-values.result.now c.in_ok-values.values c.as_slice-values.ensures c.in_ok-values.ensures.each c.in_ok-values.ensures.free c.head.result.now c.head.ensures (record { universe = c.in_ok-universe.universe; head = c.in_ok-head.head }) c.in_ok-universe.ensures c.in_ok-head.ensures).1

pub returns-clause-meets : goal.returns-clause-meets
returns-clause-meets c = (freeze_told c.args.kinds.now c.args.t.now c.args.avoid.now c.keeps_its_rules.ensures.valid c.requires.typed c.as_slice-rows.result.now (c.as_slice-rows.ensures ∙ c.in_ok-rows.ensures) c.as_slice-variables.result.now c.in_ok-variables.variables c.as_slice-variables.ensures c.in_ok-variables.ensures.all c.in_ok-variables.ensures.ascending c.as_slice.result.now c.in_ok-variable_kinds.variable_kinds c.as_slice.ensures c.in_ok-variable_kinds.ensures.kinds c.as_slice-2.result.now c.in_ok-avoid.avoid c.as_slice-2.ensures c.in_ok-avoid.ensures.members c.as_slice-values.result.now c.in_ok-values.values c.as_slice-values.ensures c.in_ok-values.ensures.each c.in_ok-values.ensures.free c.head.result.now c.head.ensures (record { universe = c.in_ok-universe.universe; head = c.in_ok-head.head }) c.in_ok-universe.ensures c.in_ok-head.ensures).2

pub returns-clause-thawed : goal.returns-clause-thawed
returns-clause-thawed c = (freeze_told c.args.kinds.now c.args.t.now c.args.avoid.now c.keeps_its_rules.ensures.valid c.requires.typed c.as_slice-rows.result.now (c.as_slice-rows.ensures ∙ c.in_ok-rows.ensures) c.as_slice-variables.result.now c.in_ok-variables.variables c.as_slice-variables.ensures c.in_ok-variables.ensures.all c.in_ok-variables.ensures.ascending c.as_slice.result.now c.in_ok-variable_kinds.variable_kinds c.as_slice.ensures c.in_ok-variable_kinds.ensures.kinds c.as_slice-2.result.now c.in_ok-avoid.avoid c.as_slice-2.ensures c.in_ok-avoid.ensures.members c.as_slice-values.result.now c.in_ok-values.values c.as_slice-values.ensures c.in_ok-values.ensures.each c.in_ok-values.ensures.free c.head.result.now c.head.ensures (record { universe = c.in_ok-universe.universe; head = c.in_ok-head.head }) c.in_ok-universe.ensures c.in_ok-head.ensures).3
