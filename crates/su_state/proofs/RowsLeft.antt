-- The rows that a delete by a condition leaves.
use Rattle.std.proofs.Common.{◌≡◌, ◌<◌, ◌≤◌, ◌+◌, ◌-◌, ℕ, Bool, true, false, not, List, [], ◌∷◌, ◌++◌, length, map, refl, sym, ap, subst, ◌∙◌, All, Contains, inl, inr, arith}
use Rattle.std.specs.Prelude.{◌↔◌, flat_map, cond}
use Rattle.std.specs.List.{items_where_true, count_by}
use Rattle.su_base.specs.declared.values.Value.{Value}
use Rattle.su_base.proofs.Items.{Contains-later, Contains-cases}
use Rattle.std.proofs.lemmas.List.Elements.{All-append, All-nil}
use Rattle.su_where.specs.declared.conditions.Condition.TheVariants.{All as AllOf}
use Rattle.su_where.specs.Truth.{Cond, truth_of, comparisons_of}
use Rattle.su_where.specs.Places.{HasPlacesBelow, Fits}
use Rattle.su_where.proofs.Layers.{comparisons_of-All}
use Rattle.su_rel.specs.Stored.{Stored, HaveWidth}
use Rattle.su_state.specs.DatabaseValue.{DatabaseValue, table_of, rows_of, IsWellKept}
use Rattle.su_state.specs.Changes.{DeletesWhere}
use Rattle.su_index.proofs.Runs.{count_by-cons}
use Rattle.su_state.proofs.DifferentRows.{differ_marked}
use Rattle.su_state.proofs.Kept.{with_table, kept_with, may_lose, table_here, changes_with}
use Rattle.std.proofs.lemmas.Bool.{false≢true, not-true}

module _ {X : Type 0} (p : X → Bool) where
  -- the items that pass
  pub passing : (xs : List X) (other : X) → Contains (items_where_true (map p xs) xs) other ↔ (Contains xs other × (p other ≡ true))
  passing [] other = (λ (k, within, is). absurd (omega (arith, within)), λ ((k, within, is), one). absurd (omega (arith, within)))
  passing (x ∷ xs) other =
      let rest = passing xs other in
      elim (p x) as (λ b. p x ≡ b → Contains (items_where_true (b ∷ map p xs) (x ∷ xs)) other ↔ (Contains (x ∷ xs) other × (p other ≡ true))) [
        | true ↦ λ one. (
          λ there. elim (Contains-cases x (items_where_true (map p xs) xs) other there) [
            | inl is ↦ ((0, omega arith, is), ap p (sym is) ∙ one)
            | inr old ↦ (Contains-later x xs other (rest.0 old).0, (rest.0 old).1)
          ],
          λ (there, passes). elim (Contains-cases x xs other there) [
            | inl is ↦ (0, omega arith, is)
            | inr old ↦ Contains-later x (items_where_true (map p xs) xs) other (rest.1 (old, passes))
          ],
        )
        | false ↦ λ out. (
          λ there. (Contains-later x xs other (rest.0 there).0, (rest.0 there).1),
          λ (there, passes). elim (Contains-cases x xs other there) [
            | inl is ↦ absurd (false≢true (sym out ∙ ap p is ∙ passes))
            | inr old ↦ rest.1 (old, passes)
          ],
        )
      ] refl

  pub passing_fewer : (xs : List X) → length (items_where_true (map p xs) xs) ≤ length xs
  passing_fewer [] = omega arith
  passing_fewer (x ∷ xs) =
      let rest = passing_fewer xs in
      elim (p x) as (λ b. length (items_where_true (b ∷ map p xs) (x ∷ xs)) ≤ length (x ∷ xs)) [ true ↦ omega (arith, rest) | false ↦ omega (arith, rest) ]

abbrev one_or_none : Bool → ℕ
one_or_none b = cond b 1 0

-- those that pass and those that don't are all
passing_counted : {X : Type 0} (p : X → Bool) (xs : List X) → length (items_where_true (map (λ x. not (p x)) xs) xs) + count_by p xs ≡ length xs
passing_counted p [] = refl
passing_counted p (x ∷ xs) =
    let rest = passing_counted p xs in
    elim (p x) as (λ b. p x ≡ b → length (items_where_true (not b ∷ map (λ x. not (p x)) xs) (x ∷ xs)) + count_by p (x ∷ xs) ≡ length (x ∷ xs)) [
      | true ↦ λ one. omega (arith, rest, count_by-cons p x xs, ap one_or_none one)
      | false ↦ λ out. omega (arith, rest, count_by-cons p x xs, ap one_or_none out)
    ] refl

-- rows of the relation's width fit a condition that fits its columns
pub fits_rows : (condition : Cond) (width n : ℕ) (rows : List (List Value)) → HaveWidth width rows → width ≡ n → Fits n condition → All (λ row. Fits (length row) condition) rows
fits_rows condition width n rows have same fits = λ k d less. subst (λ (m : ℕ). Fits m condition) (sym (have k d less ∙ same)) fits

-- a table of the database, and what stays of it where a condition isn't true
module _ (db : DatabaseValue) (r : ℕ) (condition : Cond) (old new : Stored) (marks : List Bool) (kept : IsWellKept db) (within : r < length db.tables) (is : old ≡ table_of db r) (width : new.width ≡ old.width) (marked : marks ≡ map (λ row. not (truth_of condition row)) (rows_of db r)) (stays : new.rows ≡ items_where_true marks old.rows) where
  rest : new.rows ≡ items_where_true (map (λ row. not (truth_of condition row)) (rows_of db r)) (rows_of db r)
  rest = stays ∙ ap (λ ms. items_where_true ms old.rows) marked ∙ ap (λ t. items_where_true (map (λ row. not (truth_of condition row)) (rows_of db r)) t.rows) is

  stay_or_go : (other : List Value) → Contains new.rows other ↔ (Contains (rows_of db r) other × (truth_of condition other ≡ false))
  stay_or_go other =
      let all = passing (λ row. not (truth_of condition row)) (rows_of db r) other in
      rw rest (
        λ there. ((all.0 there).0, not-true (truth_of condition other) (all.0 there).1),
        λ (there, out). all.1 (there, ap not out),
      )

  pub fewer_stay : length new.rows ≤ length (rows_of db r)
  fewer_stay = rw rest (passing_fewer (λ row. not (truth_of condition row)) (rows_of db r))

  gone : length (items_where_true (map (λ row. not (truth_of condition row)) (rows_of db r)) (rows_of db r)) + count_by (λ row. truth_of condition row) (rows_of db r) ≡ length (rows_of db r)
  gone = passing_counted (λ row. truth_of condition row) (rows_of db r)

  pub kept_staying : IsWellKept (with_table db r new)
  kept_staying = kept_with db r new kept within (may_lose db r kept within new (width ∙ ap (λ t. t.width) is) (λ x there. ((stay_or_go x).0 there).0) fewer_stay (rw rest (differ_marked _ (rows_of db r) (kept.differ r))))

  pub deletes_where : (before after : ℕ) → before ≡ length (rows_of db r) → after ≡ length new.rows → DeletesWhere db r condition (before - after) (with_table db r new)
  deletes_where before after b a =
      let here : rows_of (with_table db r new) r ≡ new.rows = ap (λ t. t.rows) (table_here db r new within) in
      record {
        only = changes_with db r new within (width ∙ ap (λ t. t.width) is);
        rows = λ other. rw here (stay_or_go other);
        counted = omega (arith, gone, ap length rest);
        left = rw here (omega (arith, fewer_stay));
      }

-- two conditions that fit fit together
pub both_fit : (n : ℕ) (first second : Cond) (parts : List Cond) → parts ≡ first ∷ second ∷ [] → Fits n first → Fits n second → Fits n (AllOf parts)
both_fit n first second parts is a b =
    let two : All (HasPlacesBelow n) (comparisons_of first ++ (comparisons_of second ++ [])) =
    All-append (HasPlacesBelow n) (comparisons_of first) (comparisons_of second ++ []) a (All-append (HasPlacesBelow n) (comparisons_of second) [] b (All-nil (HasPlacesBelow n))) in
    subst (All (HasPlacesBelow n)) (sym (comparisons_of-All parts ∙ ap (flat_map comparisons_of) is)) two
