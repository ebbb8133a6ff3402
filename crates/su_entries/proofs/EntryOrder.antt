-- The order of entries is that of their rows.
use Rattle.std.proofs.Common.{◌≡◌, ◌∙◌, refl, arith, List, [], ◌∷◌}
use Rattle.std.specs.Ordering.{ordering_then}
use Rattle.su_base.specs.declared.values.Value.{Value as AValue}
use Rattle.su_base.specs.declared.values.Value.TheVariants as row
use Rattle.su_base.specs.Value.{compare_values, compare_lists}
use Rattle.sqlite_value.specs.declared.value.Value.TheVariants.{Int, Text}
use Rattle.sqlite_value.specs.Order.{value_cmp, row_cmp}
use Rattle.sqlite_value.specs.Keys.{plain, entry_cmp}
use Rattle.sqlite_value.proofs.OrderLemmas.{value_cmp-Int, value_cmp-Text, value_cmp-apart}
use Rattle.sqlite_value.proofs.KeyLemmas.{entry_cmp-plain}
use Rattle.su_entries.specs.Entries.{value_of, entry_of}

values_order : (a b : AValue) → value_cmp (value_of a) (value_of b) ≡ compare_values a b
values_order (row.Int m) (row.Int n) = value_cmp-Int m n
values_order (row.Int m) (row.Text t) = value_cmp-apart (Int m) (Text t) (λ same. omega (arith, same))
values_order (row.Text s) (row.Int n) = value_cmp-apart (Text s) (Int n) (λ same. omega (arith, same))
values_order (row.Text s) (row.Text t) = value_cmp-Text s t

rows_order : (a b : List AValue) → row_cmp (entry_of a) (entry_of b) ≡ compare_lists a b
rows_order [] [] = refl
rows_order [] (y ∷ ys) = refl
rows_order (x ∷ xs) [] = refl
rows_order (x ∷ xs) (y ∷ ys) = λ i. ordering_then (values_order x y i) (rows_order xs ys i)

pub entries_order : (a b : List AValue) → entry_cmp plain (entry_of a) (entry_of b) ≡ compare_lists a b
entries_order a b = entry_cmp-plain (entry_of a) (entry_of b) ∙ rows_order a b
