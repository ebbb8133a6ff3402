-- The rows put in so far lead from the old rows to those of now, and the old rows are their front; so cutting back to the old length undoes them all.
use Rattle.std.proofs.Common.{◌≡◌, ◌++◌, ◌∷◌, [], arith, length, sym, ◌∙◌, ap, append_assoc}
use Rattle.std.specs.Vec.Iter.{into_iter_items}
use Rattle.su_base.proofs.Same.{has_row}
use Rattle.su_base.proofs.Items.{All-middle}
use Rattle.su_rel.specs.Stored.{HaveWidth}
use Rattle.su_rel.proofs.Rows.{take-inserted, length-inserted, All-inserted, PutIn-insert}
use Rattle.su_rel.proofs.relations.Relation.insert_all.Goals as goal

pub loop-row-preserved : goal.loop-row-preserved
loop-row-preserved c =
    let old = c.loop-row.invariant in
    let keys = c.in-Ok.ensures.keys in
    let whole : c.args.rows ≡ c.loop-row.yielded ++ (c.in-Some.row ∷ into_iter_items c.next.new.self) = old.rest ∙ ap (λ xs. c.loop-row.yielded ++ xs) c.in-Some.ensures.steps.0 in
    let all : HaveWidth c.self.inside.width (c.loop-row.yielded ++ (c.in-Some.row ∷ into_iter_items c.next.new.self)) = rw (← whole, ap (λ s. s.width) c.self.view_is) c.requires in
    let one : length c.in-Some.row ≡ c.self.inside.width = All-middle (λ row. length row ≡ c.self.inside.width) c.loop-row.yielded c.in-Some.row (into_iter_items c.next.new.self) all in
    record {
      can_next = tt;
      finite = tt;
      rest = whole ∙ sym (append_assoc c.loop-row.yielded (c.in-Some.row ∷ []) (into_iter_items c.next.new.self));
      before = take-inserted _ _ _ _ _ keys old.longer ∙ old.before;
      longer = omega (arith, length-inserted c.loop-row.self-inside.rows.keys c.in-Some.row _ c.insert.new.self.keys keys);
      same = old.same;
      width = All-inserted (λ row. length row ≡ c.loop-row.self-inside.width) _ _ _ _ keys old.width (one ∙ sym old.same);
      put = λ rows news after.
          rw append_assoc (old.put (c.in-Some.row ∷ rows) news (c.insert.new.self.keys, PutIn-insert _ _ _ (has_row c.loop-row.self-inside.rows.keys c.in-Some.row) _ keys, after));
    }
