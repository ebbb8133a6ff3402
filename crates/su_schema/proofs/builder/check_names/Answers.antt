-- The names so far differ, so the next column fails its check exactly where its name stands among the columns before it, and that is the first check to fail.
use Rattle.std.proofs.Common.{◌≡◌, take, is_some, inr, sym, ap, ◌∙◌}
use Rattle.su_schema.specs.Entries.{column_names, place_of}
use Rattle.su_schema.proofs.Entries.{position-map}
use Rattle.su_schema.proofs.ColumnsSoFar.{column_twice, column_next}
use Rattle.su_schema.proofs.builder.check_names.Goals as goal

pub returns-then-is_some-clause-refused : goal.returns-then-is_some-clause-refused
returns-then-is_some-clause-refused c =
    let place : place_of (column_names (take c.loop-c.c c.args.columns.now)) c.index-columns-c.result.name ≡ c.place_among.result =
    position-map (λ k. k.name) _ (take c.loop-c.c c.args.columns.now) ∙ rw (← c.as_str.ensures) (sym c.place_among.ensures) in
    inr (rw c.in_ok-name.ensures
    (column_twice c.args.columns.now c.loop-c.c c.loop-c.invariant c.index-columns-c.result c.loop-c-test.true c.index-columns-c.is (c.if-is_some.ensures ∙ ap is_some (sym place))))

pub loop-c-preserved : goal.loop-c-preserved
loop-c-preserved c =
    let place : place_of (column_names (take c.loop-c.c c.args.columns.now)) c.index-columns-c.result.name ≡ c.place_among.result =
    position-map (λ k. k.name) _ (take c.loop-c.c c.args.columns.now) ∙ rw (← c.as_str.ensures) (sym c.place_among.ensures) in
    column_next c.args.columns.now c.loop-c.c c.loop-c.invariant c.index-columns-c.result c.loop-c-test.true c.index-columns-c.is (c.if-is_some.ensures ∙ ap is_some (sym place))
