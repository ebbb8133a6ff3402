-- The changes so far are written; the next goes behind them.
use Rattle.std.proofs.Common.{◌≡◌, ◌++◌, ◌∷◌, [], sym, ap, ◌∙◌, append_assoc}
use Rattle.std.specs.Vec.Iter.{into_iter_items}
use Rattle.su_keep.proofs.Written.{changes_more}
use Rattle.su_entries.proofs.QuietCalls.{quiet_then, clean_before}
use Rattle.su_keep.proofs.writing.write_changes.Goals as goal

pub loop-change-preserved : goal.loop-change-preserved
loop-change-preserved g c =
    let old = c.loop-change.invariant in
    let view = g.S.Store.view in
    let whole : c.args.changes ≡ c.loop-change.yielded ++ (c.in-Some.change ∷ into_iter_items c.next.new.self) = old.rest ∙ ap (λ xs. c.loop-change.yielded ++ xs) c.in-Some.ensures.steps.0 in
    record {
      can_next = tt;
      finite = tt;
      rest = whole ∙ sym (append_assoc c.loop-change.yielded (c.in-Some.change ∷ []) (into_iter_items c.next.new.self));
      written = λ now. changes_more c.loop-change.yielded c.in-Some.change (view c.args.store.now) (view c.loop-change.store) (view c.write_change.new.store) (old.written (clean_before c.write_change.ensures.quiet now)) (c.in_ok-write_change.ensures.done now);
      quiet = quiet_then old.quiet c.write_change.ensures.quiet;
    }
