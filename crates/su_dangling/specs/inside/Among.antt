-- Whether a row is one of some rows, as a test.
-- rows ascend where a search asks for it
-- No public contract cites this module.
use Rattle.std.specs.Prelude.{Bool, not, List, filter}
use Rattle.std.specs.List.{list_any}
use Rattle.std.specs.Ordering.{is_eq}
use Rattle.su_base.specs.declared.values.Value.{Value}
use Rattle.su_base.specs.Value.{compare_lists}

-- whether the row is one of these
abbrev pub is_one : List (List Value) → List Value → Bool
is_one rows row = list_any (λ other. is_eq (compare_lists other row)) rows

-- the rows that are none of the others
abbrev pub without : List (List Value) → List (List Value) → List (List Value)
without rows others = filter (λ row. not (is_one others row)) rows
