-- What the definition of a match says.
use Rattle.std.proofs.Common.{◌≡◌, ◌<◌, ◌≤◌, ◌+◌, ℕ, Bool, true, false, cond, List, [], length, get_or, take, Option, Some, None, ap, refl, ◌∙◌, arith, inl, inr, slice_get}
use Rattle.std.specs.Bool.{Decides}
use Rattle.std.specs.Option.{option_map_or}
use Rattle.std.specs.Ordering.{is_eq}
use Rattle.std.proofs.lemmas.Bool.{false≢true, cases_eq, cases_lt}
use Rattle.std.proofs.lemmas.Cmp.{tied_itself}
use Rattle.std.proofs.lemmas.List.{take_all}
use Rattle.su_base.specs.declared.values.Value.{Value}
use Rattle.su_base.specs.Value.{compare_values}
use Rattle.su_base.proofs.Rows.{values_total, equal_values}
use Rattle.su_base.proofs.Numbers.{is_eq-Equal}
use Rattle.su_index.specs.Matches.{has_value, matches, IsMatch}
use Rattle.su_base.specs.Numbers.{count_below}
use Rattle.su_index.proofs.Ranks.{count_below-le}
use Rattle.su_index.proofs.Runs.{count_below-suc}
use Rattle.su_index.proofs.Spans.{count_rows}

is_value : (found : Option Value) (value : Value) → Decides (option_map_or (λ v. is_eq (compare_values v value)) found false) (found ≡ Some value)
is_value None value = (λ e. absurd (false≢true e), λ e. cc)
is_value (Some v) value = (
  λ e. ap Some (equal_values v value (is_eq-Equal (compare_values v value) e)),
  λ e. let same : v ≡ value = cc in rw same (ap is_eq (tied_itself values_total value)),
)

pub has_value-decides : (column : ℕ) (value : Value) (row : List Value) → Decides (has_value column value row) (slice_get row column ≡ Some value)
has_value-decides column value row = is_value (slice_get row column) value

-- one more row that has the value
matches-more : (rows : List (List Value)) (column : ℕ) (value : Value) (p q : ℕ) → p < q → q ≤ length rows → has_value column value (get_or rows p []) ≡ true → matches column value (take p rows) < matches column value (take q rows)
matches-more rows column value p q less within has =
    let test : ℕ → Bool = λ r. has_value column value (get_or rows r []) in
    let a : matches column value (take p rows) ≡ count_below test p = count_rows (has_value column value) rows p (omega arith) in
    let b : matches column value (take q rows) ≡ count_below test q = count_rows (has_value column value) rows q within in
    let c : count_below test (p + 1) ≡ count_below test p + 1 = count_below-suc test p ∙ ap (λ t. count_below test p + cond t 1 0) has in
    omega (arith, a, b, c, count_below-le test (p + 1) q (omega arith))

pub match_of : (rows : List (List Value)) (column : ℕ) (value : Value) (p : ℕ) → p < length rows → has_value column value (get_or rows p []) ≡ true → (k : ℕ) × (k < matches column value rows) × IsMatch column value rows k p
match_of rows column value p within has =
    let all : matches column value (take (length rows) rows) ≡ matches column value rows = ap (matches column value) (take_all (length rows) rows (omega arith)) in (
      matches column value (take p rows),
      omega (arith, all, matches-more rows column value p (length rows) within (omega arith) has),
      record { within = within; has = has; rank = refl },
    )

match_not_before : (rows : List (List Value)) (column : ℕ) (value : Value) (k p q : ℕ) → IsMatch column value rows k p → IsMatch column value rows k q → p < q → ⊥
match_not_before rows column value k p q a b less = omega (arith, matches-more rows column value p q less (omega (arith, b.within)) a.has, a.rank, b.rank)

pub match_unique : (rows : List (List Value)) (column : ℕ) (value : Value) (k p q : ℕ) → IsMatch column value rows k p → IsMatch column value rows k q → p ≡ q
match_unique rows column value k p q a b =
    elim (cases_eq p q) [
      | inl e ↦ e
      | inr apart ↦ elim (cases_lt q p) [
        | inr le ↦ absurd (match_not_before rows column value k p q a b (omega (arith, apart)))
        | inl more ↦ absurd (match_not_before rows column value k q p b a more)
      ]
    ]
