-- The lines so far are what the pieces so far are read as, and what is left are the other pieces.
use Rattle.std.proofs.Common.{◌≡◌, ◌++◌, ◌∷◌, [], sym, ap, ◌∙◌, append_assoc}
use Rattle.std.specs.Vec.Iter.{into_iter_items}
use Rattle.su_explained.specs.States.{at_start}
use Rattle.su_explained.proofs.Readings.{are_read-one}
use Rattle.su_explained.proofs.reading.read_pieces.Goals as goal

pub loop-piece-preserved : goal.loop-piece-preserved
loop-piece-preserved c =
    let old = c.loop-piece.invariant in
    let whole : c.args.pieces ≡ c.loop-piece.yielded ++ (c.in-Some.piece ∷ into_iter_items c.next.new.self) = old.rest ∙ ap (λ xs. c.loop-piece.yielded ++ xs) c.in-Some.ensures.steps.0 in
    record {
      rest = whole ∙ sym (append_assoc c.loop-piece.yielded (c.in-Some.piece ∷ []) (into_iter_items c.next.new.self));
      read = rw c.in_ok-push-in-Ok.ensures.ok (are_read-one c.in-Some.piece c.in-Ok.line c.in-Ok.next (c.in-Ok.ensures.line.0) at_start c.loop-piece.yielded c.loop-piece.lines c.loop-piece.state old.read c.in-Ok.ensures.line.1);
    }
