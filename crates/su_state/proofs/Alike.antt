-- A row that agrees with another on some columns: none of the first matches does, or one tells for all of its kind.
use Rattle.std.proofs.Common.{◌≡◌, ◌<◌, ◌+◌, ℕ, List, [], slice_get, Some, sym, subst, ◌∙◌, Contains, arith, below_more}
use Rattle.std.specs.Prelude.{IsTrue}
use Rattle.std.specs.Ordering.{nat_cmp}
use Rattle.std.specs.FinSet.{FinSet, contains}
use Rattle.std.proofs.lemmas.List.{get_or_default}
use Rattle.su_base.specs.declared.values.Value.{Value}
use Rattle.su_index.specs.Matches.{matches, IsMatch}
use Rattle.su_index.proofs.Matched.{has_value-decides, match_of, match_unique}
use Rattle.su_state.specs.declared.sides.Sides.{Sides}
use Rattle.su_state.specs.inside.Sides.{AgreeAt, Clash, row_at}

-- none of the first k rows that have the value in the column agrees with the row
abbrev pub NoneAlike : FinSet nat_cmp → List (List Value) → List Value → ℕ → Value → ℕ → Type 0
NoneAlike columns rows row column value k = (j : ℕ) → j < k → (p : ℕ) → IsMatch column value rows j p → ¬ AgreeAt columns row (row_at rows p)

module _ (columns : FinSet nat_cmp) (rows : List (List Value)) (row : List Value) (column : ℕ) (value : Value) where
  pub none_more : (k p : ℕ) → IsMatch column value rows k p → NoneAlike columns rows row column value k → (¬ AgreeAt columns row (row_at rows p)) → NoneAlike columns rows row column value (k + 1)
  none_more k p match none out =
      below_more (λ j. (q : ℕ) → IsMatch column value rows j q → ¬ AgreeAt columns row (row_at rows q)) k none
      (λ q other. subst (λ (r : ℕ). ¬ AgreeAt columns row (row_at rows r)) (match_unique rows column value k p q match other) out)

  pub none_at_all : slice_get row column ≡ Some value → IsTrue (contains columns column) → (k : ℕ) → k ≡ matches column value rows → NoneAlike columns rows row column value k → (other : List Value) → Contains rows other → ¬ AgreeAt columns row other
  none_at_all at on k all none other there alike =
      let is : row_at rows there.0 ≡ other = get_or_default rows there.0 [] other there.1 ∙ there.2 in
      let here : AgreeAt columns row (row_at rows there.0) = rw is alike in
      let m = match_of rows column value there.0 there.1 ((has_value-decides column value (row_at rows there.0)).1 (sym (here column on) ∙ at)) in
      none m.0 (omega (arith, m.1)) there.0 m.2 here

-- where no rows clash, one that agrees with the row on both sides tells that the row clashes with none
pub one_for_all : (sides : Sides) (rows : List (List Value)) (row one : List Value) → ((a b : List Value) → Contains rows a → Contains rows b → ¬ Clash sides a b) → Contains rows one → AgreeAt sides.left row one → AgreeAt sides.right row one → (other : List Value) → Contains rows other → ¬ Clash sides row other
one_for_all sides rows row one keeps here left right other there clash =
    keeps one other here there (λ c on. sym (left c on) ∙ clash.0 c on, λ all. clash.1 (λ c on. right c on ∙ all c on))
