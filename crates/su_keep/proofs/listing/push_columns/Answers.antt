-- One more column stands behind those before it.
use Rattle.std.proofs.Common.{sym, ap, ◌∙◌}
use Rattle.su_base.specs.declared.values.Column.{Column}
use Rattle.su_keep.specs.Listed.{kind_words}
use Rattle.std.specs.Prelude.{string_bytes}
use Rattle.su_keep.proofs.NamesBefore.{columns_begin, columns_step, got_at}
use Rattle.su_keep.proofs.listing.push_columns.Goals as goal

pub loop-place-init : goal.loop-place-init
loop-place-init c = columns_begin c.args.columns.now (string_bytes c.args.out.now)

pub loop-place-preserved : goal.loop-place-preserved
loop-place-preserved c =
    columns_step c.args.columns.now c.loop-place.place c.index-columns-place.result (string_bytes c.args.out.now) (string_bytes c.loop-place.out) (string_bytes c.push_quoted.new.out) (string_bytes c.push_str.new.self) c.as_str.result.now c.words_of.result.now
    (got_at c.args.columns.now c.loop-place.place c.index-columns-place.result c.loop-place-test.true c.index-columns-place.is) c.loop-place.invariant c.in_ok-push_quoted.ensures (c.as_str.ensures.value ∙ c.in_ok-column_name.ensures) c.in_ok-push_str.ensures.bytes
    (c.words_of.ensures ∙ ap (λ (column : Column). kind_words column.kind) (sym c.index-columns-place.is))
