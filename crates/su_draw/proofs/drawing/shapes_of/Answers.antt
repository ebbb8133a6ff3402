-- One more shape that stands where the layout has it.
use Rattle.std.proofs.Common.{rules, ◌≡◌, ◌++◌, [], ◌∷◌, sym, ap, ◌∙◌, subst, arith}
use Rattle.std.specs.Prelude.{All}
use Rattle.std.proofs.lemmas.Grind.{common_steps}
use Rattle.std.proofs.lemmas.List.Elements.{All-push}
use Rattle.su_draw.specs.declared.tables.Table.{Table}
use Rattle.su_draw.specs.inside.Lay.{IsLaid, IsRinged, table_of}
use Rattle.su_draw.proofs.drawing.shapes_of.Goals as goal

pub loop-thing-preserved : goal.loop-thing-preserved
loop-thing-preserved c =
    let layout = c.args.plan.now.layout in
    let core = c.args.plan.now.core in
    let pushed : c.push.new.self ≡ c.loop-thing.shapes ++ c.shape_of.result ∷ [] = search rules in
    let own = c.in_ok-table-2.ensures in record {
      rest = grind (arith, common_steps);
      placed = grind (arith, common_steps);
      made = own ∙ ap (table_of layout.left layout.lines.now) (sym (ap (λ (t : Table). t.term) own));
      laid = subst (All (IsLaid layout)) (sym pushed) (All-push (IsLaid layout) c.loop-thing.shapes c.shape_of.result c.loop-thing.invariant.laid c.shape_of.ensures.laid);
      ringed = subst (All (IsRinged core)) (sym pushed) (All-push (IsRinged core) c.loop-thing.shapes c.shape_of.result c.loop-thing.invariant.ringed c.shape_of.ensures.ringed);
    }
