-- Leads that differ are in the order of their values, and equal leads leave it to the values and positions, so either way the entry's order is told.
use Rattle.std.proofs.Common.{◌≡◌, arith, sym, ◌∙◌}
use Rattle.std.specs.Ordering.{nat_cmp}
use Rattle.std.proofs.lemmas.Bool.Decides.{nat_tests}
use Rattle.su_index.specs.inside.Order.{value_at}
use Rattle.su_index.proofs.Leads.{lead_tells, lead_tied}
use Rattle.su_index.proofs.order.is_before.Goals as goal

pub returns-then-found-lead : goal.returns-then-found-lead
returns-then-found-lead c =
    let apart : c.args.found.lead ≡ c.args.lead → ⊥ = λ e. grind (arith, nat_tests, e, c.if-found-lead.true) in
    sym (lead_tells c.args.found.lead c.args.lead (value_at c.args.rows.now c.args.column c.args.found.position) c.args.wanted.now (nat_cmp c.args.found.position c.args.position) c.requires.found c.requires.lead apart)

pub returns : goal.returns
returns c =
    let same : c.args.found.lead ≡ c.args.lead = grind (arith, nat_tests, c.if-found-lead.false) in
    c.is_before_by_value.ensures
    ∙ sym (lead_tied c.args.found.lead c.args.lead (value_at c.args.rows.now c.args.column c.args.found.position) c.args.wanted.now (nat_cmp c.args.found.position c.args.position) c.requires.found c.requires.lead same)
