-- The least row that clashes, among the first of the rows that have a value in a column.
use Rattle.std.proofs.Common.{◌≡◌, ◌≢◌, ◌<◌, ◌+◌, ℕ, true, false, List, [], length, slice_get, Option, Some, None, MatchOption, refl, sym, ap, subst, ◌∙◌, Contains, inl, inr, arith, below_more}
use Rattle.std.specs.Prelude.{IsTrue}
use Rattle.std.specs.Ordering.{ordering_reverse, is_gt, is_lt}
use Rattle.std.specs.FinSet.{contains}
use Rattle.std.specs.declared.cmp.Ordering.{Ordering}
use Rattle.std.specs.declared.cmp.Ordering.TheVariants.{Less, Equal, Greater}
use Rattle.std.proofs.lemmas.Bool.{false≢true}
use Rattle.std.proofs.lemmas.Cmp.{tied_itself, upto}
use Rattle.std.proofs.lemmas.Option.{get_or_from_slice_get}
use Rattle.std.proofs.lemmas.List.{get_or_default}
use Rattle.std.proofs.lemmas.List.Elements.{Contains-get_or}
use Rattle.su_base.specs.declared.values.Value.{Value}
use Rattle.su_base.specs.Value.{compare_lists}
use Rattle.su_base.proofs.Rows.{rows_total}
use Rattle.su_index.specs.Matches.{matches, IsMatch}
use Rattle.su_index.proofs.Matched.{has_value-decides, match_of, match_unique}
use Rattle.su_state.specs.declared.sides.Sides.{Sides}
use Rattle.su_state.specs.inside.Sides.{IsAtMost, Clash, IsLeastClash, IsLesser, row_at}

pub at_most_itself : (row : List Value) → IsAtMost row row
at_most_itself row greater = let same : compare_lists row row ≡ Equal = tied_itself rows_total row in cc

not_greater : (o : Ordering) → o ≢ Greater → is_gt o ≡ false
not_greater Less out = refl
not_greater Equal out = refl
not_greater Greater out = absurd (out refl)

greater : (o : Ordering) → is_gt o ≡ false → o ≢ Greater
greater o out is = let one : is_gt o ≡ true = ap is_gt is in absurd (false≢true (sym out ∙ one))

pub at_most_through : (a b c : List Value) → IsAtMost a b → IsAtMost b c → IsAtMost a c
at_most_through a b c first second = greater (compare_lists a c) (upto rows_total a b c (not_greater _ first) (not_greater _ second))

pub less_is_at_most : (a b : List Value) → compare_lists a b ≡ Less → IsAtMost a b
less_is_at_most a b less greater' = cc

-- where the other does not stand before it
pub at_most_since : (a b : List Value) → compare_lists b a ≢ Less → IsAtMost a b
at_most_since a b out greater' = out (rows_total.antisymm b a ∙ ap ordering_reverse greater')

-- the position of the least clash with one of the first k rows that have the value in the column
abbrev pub IsLeastSoFar : Sides → List (List Value) → List Value → ℕ → Value → ℕ → Option ℕ → Type 0
IsLeastSoFar sides rows row column value k None = (j : ℕ) → j < k → (p : ℕ) → IsMatch column value rows j p → ¬ Clash sides row (row_at rows p)
IsLeastSoFar sides rows row column value k (Some q) = (q < length rows) × Clash sides row (row_at rows q)
    × ((j : ℕ) → j < k → (p : ℕ) → IsMatch column value rows j p → Clash sides row (row_at rows p) → IsAtMost (row_at rows q) (row_at rows p))

pub some_within : (sides : Sides) (rows : List (List Value)) (row : List Value) (column : ℕ) (value : Value) (k : ℕ) (least : Option ℕ) → IsLeastSoFar sides rows row column value k least → MatchOption least (Unit {0}) (λ q. q < length rows)
some_within sides rows row column value k None so_far = tt
some_within sides rows row column value k (Some q) so_far = so_far.0

module _ (sides : Sides) (rows : List (List Value)) (row : List Value) (column : ℕ) (value : Value) (k p : ℕ) (match : IsMatch column value rows k p) where
  -- what holds of the row at p holds of the k-th match
  at_match : (X : ℕ → Type 0) → X p → (q : ℕ) → IsMatch column value rows k q → X q
  at_match X here q other = subst X (match_unique rows column value k p q match other) here

  not_so_far : (least : Option ℕ) → IsLeastSoFar sides rows row column value k least → (¬ Clash sides row (row_at rows p)) → IsLeastSoFar sides rows row column value (k + 1) least
  not_so_far None so_far out =
      below_more (λ j. (q : ℕ) → IsMatch column value rows j q → ¬ Clash sides row (row_at rows q)) k so_far (at_match (λ q. ¬ Clash sides row (row_at rows q)) out)
  not_so_far (Some q) so_far out = (
    so_far.0,
    so_far.1,
    below_more (λ j. (r : ℕ) → IsMatch column value rows j r → Clash sides row (row_at rows r) → IsAtMost (row_at rows q) (row_at rows r)) k so_far.2
        (at_match (λ r. Clash sides row (row_at rows r) → IsAtMost (row_at rows q) (row_at rows r)) (λ clash. absurd (out clash))),
  )

  is_first : IsLeastSoFar sides rows row column value k None → Clash sides row (row_at rows p) → IsLeastSoFar sides rows row column value (k + 1) (Some p)
  is_first so_far clash = (
    match.within,
    clash,
    below_more (λ j. (r : ℕ) → IsMatch column value rows j r → Clash sides row (row_at rows r) → IsAtMost (row_at rows p) (row_at rows r)) k
        (λ j less r m other. absurd (so_far j less r m other))
        (at_match (λ r. Clash sides row (row_at rows r) → IsAtMost (row_at rows p) (row_at rows r)) (λ _. at_most_itself (row_at rows p))),
  )

  less_so_far : (q : ℕ) → IsLeastSoFar sides rows row column value k (Some q) → Clash sides row (row_at rows p) → compare_lists (row_at rows p) (row_at rows q) ≡ Less → IsLeastSoFar sides rows row column value (k + 1) (Some p)
  less_so_far q so_far clash less = (
    match.within,
    clash,
    below_more (λ j. (r : ℕ) → IsMatch column value rows j r → Clash sides row (row_at rows r) → IsAtMost (row_at rows p) (row_at rows r)) k
        (λ j below r m other. at_most_through (row_at rows p) (row_at rows q) (row_at rows r) (less_is_at_most (row_at rows p) (row_at rows q) less) (so_far.2 j below r m other))
        (at_match (λ r. Clash sides row (row_at rows r) → IsAtMost (row_at rows p) (row_at rows r)) (λ _. at_most_itself (row_at rows p))),
  )

  is_kept : (q : ℕ) → IsLeastSoFar sides rows row column value k (Some q) → compare_lists (row_at rows p) (row_at rows q) ≢ Less → IsLeastSoFar sides rows row column value (k + 1) (Some q)
  is_kept q so_far out = (
    so_far.0,
    so_far.1,
    below_more (λ j. (r : ℕ) → IsMatch column value rows j r → Clash sides row (row_at rows r) → IsAtMost (row_at rows q) (row_at rows r)) k so_far.2
        (at_match (λ r. Clash sides row (row_at rows r) → IsAtMost (row_at rows q) (row_at rows r)) (λ _. at_most_since (row_at rows q) (row_at rows p) out)),
  )

  pub least_more : (least new : Option ℕ) → IsLeastSoFar sides rows row column value k least → IsLesser sides rows row least p new → IsLeastSoFar sides rows row column value (k + 1) new
  least_more least new so_far (inl (out, same)) = rw same (not_so_far least so_far out)
  least_more None new so_far (inr (clash, is)) = rw is (is_first so_far clash)
  least_more (Some q) new so_far (inr (clash, inl (less, is))) = rw is (less_so_far q so_far clash less)
  least_more (Some q) new so_far (inr (clash, inr (out, is))) = rw is (is_kept q so_far out)

module _ (sides : Sides) (rows : List (List Value)) (row : List Value) (column : ℕ) (value : Value) (at : slice_get row column ≡ Some value) (on : IsTrue (contains sides.left column)) where
  -- a row that clashes has the value in the column
  pub clash_matches : (p : ℕ) → p < length rows → Clash sides row (row_at rows p) → (j : ℕ) × (j < matches column value rows) × IsMatch column value rows j p
  clash_matches p within clash = match_of rows column value p within ((has_value-decides column value (row_at rows p)).1 (sym (clash.0 column on) ∙ at))

  pub least_of_all : (k : ℕ) (least : Option ℕ) → k ≡ matches column value rows → IsLeastSoFar sides rows row column value k least
      → MatchOption least ((other : List Value) → Contains rows other → ¬ Clash sides row other) (λ p. (p < length rows) × IsLeastClash sides rows row (row_at rows p))
  least_of_all k None all so_far = λ other there clash.
      let is : row_at rows there.0 ≡ other = get_or_default rows there.0 [] other there.1 ∙ there.2 in
      let here : Clash sides row (row_at rows there.0) = rw is clash in
      let m = clash_matches there.0 there.1 here in
      so_far m.0 (omega (arith, m.1)) there.0 m.2 here
  least_of_all k (Some q) all so_far = (
    so_far.0,
    record {
      stored = Contains-get_or rows q [] so_far.0;
      clash = so_far.1;
      least = λ other there clash.
          let is : row_at rows there.0 ≡ other = get_or_default rows there.0 [] other there.1 ∙ there.2 in
          let here : Clash sides row (row_at rows there.0) = rw is clash in
          let m = clash_matches there.0 there.1 here in
          subst (IsAtMost (row_at rows q)) is (so_far.2 m.0 (omega (arith, m.1)) there.0 m.2 here);
    },
  )

pub not_less : (o : Ordering) → is_lt o ≡ false → o ≢ Less
not_less o out less = false≢true (sym out ∙ ap is_lt less)

-- the row at a position
pub row_there : (rows : List (List Value)) (p : ℕ) (row : List Value) → slice_get rows p ≡ Some row → row_at rows p ≡ row
row_there rows p row there = get_or_from_slice_get rows p row [] there
