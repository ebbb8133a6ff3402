-- The columns before it have the names before its own.
use Rattle.std.proofs.Common.{◌≡◌, List, ℕ, refl, sym, ap, subst, ◌∙◌}
use Rattle.su_base.specs.declared.values.Column.{Column}
use Rattle.std.specs.Prelude.{IfOk, string_bytes}
use Rattle.su_keep.proofs.NamesBefore.{column_named, got_at}
use Rattle.su_keep.proofs.names.column_name.Goals as goal

pub returns : goal.returns
returns c =
    subst (λ (text : List ℕ). IfOk c.named.result (λ it. string_bytes it ≡ text))
    (column_named c.args.columns.now _ c.args.place c.index-columns-place.result c.as_str-name.result.now c.is_met_among-is_met.result c.needs_number.result (got_at c.args.columns.now c.args.place c.index-columns-place.result c.requires.at c.index-columns-place.is) (c.as_str-name.ensures ∙ ap (λ (column : Column). column.name) (sym c.index-columns-place.is)) refl c.is_met_among-is_met.ensures c.needs_number.ensures)
    c.named.ensures
