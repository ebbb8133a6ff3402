-- One more name is looked at, or one was met already.
use Rattle.std.proofs.Common.{◌||◌, ap, ap₂, sym, ◌∙◌}
use Rattle.std.proofs.lemmas.List.Folds.{list_any_kept}
use Rattle.su_schema.specs.Entries.{relation_names}
use Rattle.sqlite_trees.specs.Sound.{same_name}
use Rattle.su_keep.proofs.NamesBefore.{met_more}
use Rattle.su_keep.proofs.names.is_met_before.Goals.{then-is_met, else-is_met}
use Rattle.su_keep.proofs.names.is_met_before.Goals as goal

pub loop-r-preserved : goal.loop-r-preserved
loop-r-preserved c =
    let name = c.args.name.now in
    let names = relation_names c.args.schema.now in
    elim c.if-is_met.branch [
      | then-is_met w ↦ w.is_met-is ∙ w.if-is_met.true ∙ sym (list_any_kept (same_name name) names c.loop-r.r (sym c.loop-r.invariant ∙ w.if-is_met.true))
      | else-is_met w ↦ w.is_met-is ∙ w.same_name-is_met.ensures
          ∙ ap₂ same_name w.as_bytes.ensures.value w.as_bytes-else-is_met.ensures.value
          ∙ ap (λ b. b || same_name name w.relation_name.result.now) (sym w.if-is_met.false)
          ∙ met_more name names c.loop-r.r w.relation_name.result.now c.loop-r.is_met w.relation_name.ensures c.loop-r.invariant
    ]
