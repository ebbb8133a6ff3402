-- A fitting universal relation is copied to one of bytes, which fits too; what a row of the copy has is read back.
use Rattle.std.proofs.Common.{◌≡◌, ℕ, zero, suc, ◌+◌, ◌≤◌, true, false, cond, List, [], ◌∷◌, map, get_or, pos, refl, sym, ap, ◌∙◌, subst, arith}
use Rattle.std.specs.Prelude.{All, Contains}
use Rattle.std.specs.Ordering.{nat_cmp}
use Rattle.std.specs.FinSet.{FinSet, contains}
use Rattle.std.proofs.lemmas.List.Elements.{All-contains}
use Rattle.su_base.specs.declared.values.Value.{Value}
use Rattle.su_base.specs.declared.values.Value.TheVariants.{Int}
use Rattle.su_base.proofs.Items.{Contains-map, Contains-map_source, map-map_equal}
use Rattle.su_tableau.specs.Bytes.{IsOfBytes}
use Rattle.su_tableau.specs.Valuations.{values_at}
use Rattle.su_schema.specs.Entries.{attribute_kinds}
use Rattle.su_schema.specs.Cuts.{attributes_at, cut_from, cut}
use Rattle.su_state.specs.DatabaseValue.{DatabaseValue}
use Rattle.su_window.specs.Window.{Fits, Includes}
use Rattle.su_bytes.specs.Windows.{HasByteViews, BytesSufficeForWindows}
use Rattle.su_bytes.proofs.Codes.{coded, decoded, coded-same, decoded-all, spans, row_spans, coded_universe}
use Rattle.su_bytes.proofs.RenamedDependencies.{AreReadBack, rest, rows_read_back, renamed_meets}

-- a renamed row's cut is the cut, renamed
pub cut_renamed : (g : Value → Value) (i : ℕ) (s : FinSet nat_cmp) (xs : List Value) → cut_from i s (map g xs) ≡ map g (cut_from i s xs)
cut_renamed g i s [] = refl
cut_renamed g i s (x ∷ xs) =
    let later = cut_renamed g (suc i) s xs in
    elim (contains s i) as (λ b. cond b (g x ∷ cut_from (suc i) s (map g xs)) (cut_from (suc i) s (map g xs)) ≡ map g (cond b (x ∷ cut_from (suc i) s xs) (cut_from (suc i) s xs))) [
      | true ↦ ap (λ ys. g x ∷ ys) later
      | false ↦ later
    ]

module _ (n : ℕ) where
  -- values of bytes stay as they are
  pub bytes_kept : (xs : List Value) → All IsOfBytes xs → map (coded n) xs ≡ xs
  bytes_kept [] h = refl
  bytes_kept (x ∷ xs) h =
      let first : coded n x ≡ x = coded-same n x (h 0 x (omega arith)) in
      let later = bytes_kept xs (λ k d l. h (suc k) d (omega arith)) in
      cc

  copy_includes : (db : DatabaseValue) → HasByteViews db → (universe : List (List Value)) → Includes db universe → Includes db (map (map (coded n)) universe)
  copy_includes db views universe includes o x low c =
      let s = attributes_at db.schema o in
      let w = Contains-map_source (cut s) universe x (includes o x low c) in
      let is : cut s (map (coded n) w.0) ≡ x = cut_renamed (coded n) 0 s w.0 ∙ ap (map (coded n)) w.2 ∙ bytes_kept x (views o x low c) in
      let copy = map (map (coded n)) universe in
      subst (Contains (map (cut s) copy)) is (Contains-map (cut s) copy (map (coded n) w.0) (Contains-map (map (coded n)) universe w.0 w.1))

  copy_fits : (db : DatabaseValue) → HasByteViews db → (universe : List (List Value)) → row_spans universe ≤ n → Fits db universe → Fits db (map (map (coded n)) universe)
  copy_fits db views universe low fits =
      record {
        kinds = (coded_universe (attribute_kinds db.schema) n universe fits.kinds).typed;
        meets = renamed_meets n db.schema.fds universe low fits.meets;
        includes = copy_includes db views universe fits.includes;
      }

  -- the value at a place, which is 0 past the end
  value_read : (row : List Value) → AreReadBack (coded n) (decoded n) row → (a : ℕ) → decoded n (get_or (map (coded n) row) a (Int (pos 0))) ≡ get_or row a (Int (pos 0))
  value_read [] h a = refl
  value_read (x ∷ xs) h zero = h 0 x (omega arith)
  value_read (x ∷ xs) h (suc a) = value_read xs (rest (coded n) (decoded n) x xs h) a

  values_read : (row : List Value) → AreReadBack (coded n) (decoded n) row → (attributes : List ℕ) → map (decoded n) (values_at attributes (map (coded n) row)) ≡ values_at attributes row
  values_read row h attributes = map-map_equal (λ a. get_or (map (coded n) row) a (Int (pos 0))) (decoded n) (λ a. get_or row a (Int (pos 0))) (value_read row h) attributes

pub window_by_bytes : BytesSufficeForWindows
window_by_bytes db attributes h views window universe fits =
    let n : ℕ = row_spans universe + spans h in
    let low : row_spans universe ≤ n = omega arith in
    let copy = map (map (coded n)) universe in
    let w = window copy (copy_fits n db views universe low fits) (coded_universe (attribute_kinds db.schema) n universe fits.kinds).bytes in
    let r = Contains-map_source (map (coded n)) universe w.0 w.1 in
    let read = All-contains (AreReadBack (coded n) (decoded n)) universe r.0 (rows_read_back n universe low) r.1 in
    (r.0, r.1, sym (values_read n r.0 read attributes) ∙ ap (λ row. map (decoded n) (values_at attributes row)) r.2 ∙ ap (map (decoded n)) w.2 ∙ decoded-all n h (omega arith))
