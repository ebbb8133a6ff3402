-- The condition fits each of the rows, and those of which it is true are exactly what passes the filter.
use Rattle.std.proofs.Common.{◌≡◌, ◌≤◌, List, length, filter, Contains, rules, subst, sym, ap, ◌∙◌}
use Rattle.std.proofs.lemmas.List.{take_all}
use Rattle.su_base.specs.declared.values.Value.{Value}
use Rattle.su_base.proofs.Items.{Contains-filter, Contains-filter_source}
use Rattle.su_where.specs.Truth.{truth_of}
use Rattle.su_where.specs.Places.{Fits}
use Rattle.su_effects.proofs.deleting.met.Goals as goal

pub truth-requires : goal.truth-requires
truth-requires c = record { places = subst (λ (row : List Value). Fits (length row) c.args.cond.now) (sym c.row-item.is) (c.requires c.loop-row.row-index c.row-item.result c.loop-row-test.true) }

pub returns : goal.returns
returns c = λ row.
    let test = λ (x : List Value). truth_of c.args.cond.now x in
    let past : length c.args.rows.now ≤ c.loop-row.row-index = search (rules, c.loop-row-test.false) in
    let are : c.loop-row.met ≡ filter test c.args.rows.now = c.loop-row.invariant ∙ ap (λ xs. filter test xs) (take_all c.loop-row.row-index c.args.rows.now past) in (
      λ has. Contains-filter_source test c.args.rows.now row (subst (λ (xs : List (List Value)). Contains xs row) are has),
      λ has. subst (λ (xs : List (List Value)). Contains xs row) (sym are) (Contains-filter test c.args.rows.now row has.0 has.1),
    )
