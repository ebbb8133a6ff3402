-- Values that have the columns' kinds one by one.
use Rattle.std.proofs.Common.{◌≡◌, ◌<◌, ℕ, List, [], ◌∷◌, length, map, slice_get, Some, refl, suc, arith}
use Rattle.su_base.specs.declared.values.Value.{Value}
use Rattle.su_base.specs.declared.values.Column.{Column}
use Rattle.su_base.specs.Value.{kind_of}
use Rattle.su_state.specs.DatabaseValue.{HasColumnKinds}

pub typed_from : (columns : List Column) (row : List Value) → length row ≡ length columns
    → ((k : ℕ) (column : Column) (value : Value) → k < length columns → slice_get columns k ≡ Some column → slice_get row k ≡ Some value → kind_of value ≡ column.kind) → HasColumnKinds columns row
typed_from [] [] same all = refl
typed_from [] (v ∷ row) same all = absurd (omega arith)
typed_from (c ∷ columns) [] same all = absurd (omega arith)
typed_from (c ∷ columns) (v ∷ row) same all =
    let head : kind_of v ≡ c.kind = all 0 c v (omega arith) refl refl in
    let tail : map kind_of row ≡ map (λ c. c.kind) columns = typed_from columns row (omega arith) (λ k column value within at there. all (suc k) column value (omega arith) at there) in
    cc
