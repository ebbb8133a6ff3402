-- The sorted rows are those of the change.
use Rattle.std.proofs.Common.{◌<◌, ◌+◌, ℕ, List, refl, sym, ap, subst}
use Rattle.su_base.specs.declared.values.Value.{Value as AValue}
use Rattle.su_keep.proofs.Written.{puts, takes, AreThose}
use Rattle.su_keep.proofs.writing.write_change.Goals as goal

pub returns-then-change-clause-done : goal.returns-then-change-clause-done
returns-then-change-clause-done g c = λ now.
    let view = g.S.Store.view in
    let those : AreThose c.as_slice.result.now c.args.change.rows = subst (λ (rs : List (List AValue)). AreThose rs c.args.change.rows) (sym c.as_slice.ensures) c.sorted_rows-rows.ensures.members in
    let low : c.args.change.relation < 256 = search in
    puts c.args.change c.as_slice.result.now (view c.args.store.now) (view c.put_in.new.store) (c.from-tree.result + 1) _ (ap (λ (n : ℕ). n + 1) c.from-tree.ensures) c.put_in_adds_rows.ensures (c.if-not-is_set.ensures.plain refl) low c.if-change.true those (c.in_ok-put_in.ensures.done now)

pub returns-clause-done : goal.returns-clause-done
returns-clause-done g c = λ now.
    let view = g.S.Store.view in
    let those : AreThose c.as_slice-2.result.now c.args.change.rows = subst (λ (rs : List (List AValue)). AreThose rs c.args.change.rows) (sym c.as_slice-2.ensures) c.sorted_rows-rows.ensures.members in
    let low : c.args.change.relation < 256 = search in
    takes c.args.change c.as_slice-2.result.now (view c.args.store.now) (view c.take_out.new.store) (c.from-tree.result + 1) _ (ap (λ (n : ℕ). n + 1) c.from-tree.ensures) c.take_out_leaves_rows.ensures (c.if-not-is_set.ensures.plain refl) low c.if-change.false those (c.in_ok-take_out.ensures.done now)
