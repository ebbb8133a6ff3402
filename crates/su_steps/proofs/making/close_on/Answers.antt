-- The rows to close are those of the origins by numbers; the resolved query has its places, and so the items of its equalities and rows, within the table.
use Rattle.std.proofs.Common.{◌≡◌, List, map, length, sym, ap, subst, ◌∙◌}
use Rattle.std.specs.Prelude.{All}
use Rattle.su_base.specs.declared.values.Value.{Value}
use Rattle.su_classes.specs.declared.items.Placed.{Placed}
use Rattle.su_classes.specs.Items.{IsPlacedBelow}
use Rattle.su_steps.specs.inside.Numbers.{placed_of}
use Rattle.su_steps.proofs.Tabled.{equal_in, rows_below}
use Rattle.su_steps.proofs.making.close_on.Goals as goal

pub close-requires-clause-within : goal.close-requires-clause-within
close-requires-clause-within c = equal_in c.args.schema.now c.args.resolved.now c.requires.resolved c.args.literals.now c.requires.literals c.args.classes.now c.requires.ready

pub close-requires-clause-cells : goal.close-requires-clause-cells
close-requires-clause-cells c =
    let classes = c.args.classes.now in
    let os = c.args.origins.now in
    let is : c.as_slice-2.result.now ≡ map (placed_of c.args.schema.now classes.constants) os =
    c.as_slice-2.ensures ∙ c.in_ok-placed.ensures ∙ ap (λ (vs : List Value). map (placed_of c.args.schema.now vs) os) c.as_slice.ensures in
    subst (λ (ps : List Placed). All (IsPlacedBelow (length classes.table.items)) ps) (sym is)
    (rows_below c.args.schema.now c.args.resolved.now c.args.literals.now os classes c.keeps_its_rules.ensures c.requires.resolved c.requires.literals c.requires.origins c.requires.ready)
