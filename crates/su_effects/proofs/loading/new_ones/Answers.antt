-- What was kept so far are those of the rows so far that the table doesn't have, and what is left are the other rows.
use Rattle.std.proofs.Common.{◌≡◌, ◌++◌, ◌∷◌, [], not, sym, ap, ◌∙◌, append_assoc}
use Rattle.std.proofs.lemmas.Bool.{not-false}
use Rattle.std.specs.Vec.Iter.{into_iter_items}
use Rattle.su_effects.proofs.PutRows.{new_next}
use Rattle.su_effects.proofs.loading.new_ones.Goals as goal

pub loop-row-preserved : goal.loop-row-preserved
loop-row-preserved c =
    let old = c.loop-row.invariant in
    let whole : c.args.rows ≡ c.loop-row.yielded ++ (c.in-Some.row ∷ into_iter_items c.next.new.self) = old.rest ∙ ap (λ xs. c.loop-row.yielded ++ xs) c.in-Some.ensures.steps.0 in
    record {
      rest = whole ∙ sym (append_assoc c.loop-row.yielded (c.in-Some.row ∷ []) (into_iter_items c.next.new.self));
      are = rw c.in_ok-push_if.ensures.ok (new_next c.args.table.now.rows c.loop-row.yielded c.loop-row.new_ones c.in-Some.row old.are (not c.has-is_new.result) (λ known. c.has-is_new.ensures.0 (not-false c.has-is_new.result known)));
    }
