-- A condition on the columns of a relation fits its rows.
use Rattle.std.proofs.Common.{◌≡◌, ℕ, List, map, length, get_or, All, Some, sym, ap, ◌∙◌, subst, arith}
use Rattle.std.proofs.lemmas.List.{length-map}
use Rattle.su_base.specs.declared.values.Value.{Value}
use Rattle.su_base.specs.declared.values.Column.{Column}
use Rattle.su_base.specs.Value.{kind_of}
use Rattle.su_where.specs.Truth.{Cond}
use Rattle.su_where.specs.Places.{Fits}
use Rattle.su_query.specs.Ranges.{IsOnColumns}
use Rattle.su_state.specs.DatabaseValue.{DatabaseValue, IsWellKept, HasColumnKinds, rows_of, columns_of}
use Rattle.su_session.specs.RowStatements.{relation_number}
use Rattle.su_session.proofs.Relations.{relation_below, fits_columns}

same_length : (columns : List Column) (row : List Value) → HasColumnKinds columns row → length row ≡ length columns
same_length columns row kinds =
    let same : length (map kind_of row) ≡ length (map (λ (c : Column). c.kind) columns) = ap (λ xs. length xs) kinds in
    sym (length-map row kind_of) ∙ same ∙ length-map columns (λ (c : Column). c.kind)

pub rows_fit : (db : DatabaseValue) (name : List ℕ) (r : ℕ) (c : Cond) → IsWellKept db → relation_number db name ≡ Some r → IsOnColumns db.schema r c → All (λ (row : List Value). Fits (length row) c) (rows_of db r)
rows_fit db name r c kept is on = λ i d within.
    let below = relation_below db.schema name r is in
    let one = kept.typed r (let tables = kept.tables in omega (arith, below, tables)) i d within in
    subst (λ (n : ℕ). Fits n c) (sym (same_length (columns_of db r) (get_or (rows_of db r) i d) one)) (fits_columns db.schema r c on)
