-- A list of columns that is read column by column: what has been found when i columns are read.
use Rattle.std.proofs.Common.{◌≡◌, ◌+◌, ◌<◌, ℕ, Bool, true, false, List, [], ◌∷◌, ◌++◌, length, take, drop, get_or, Some, is_some, refl, sym, ap, ◌∙◌, add-one, suc}
use Rattle.std.proofs.Math.Seq.{drop-cons}
use Rattle.std.proofs.lemmas.List.{take_more, map-append}
use Rattle.su_base.specs.declared.values.Column.{Column}
use Rattle.su_schema.specs.declared.faults.SchemaFault.TheVariants.{Twice}
use Rattle.su_schema.specs.Entries.{column_names, place_of}
use Rattle.su_schema.specs.NameChecks.{first_failing, apart_checks}
use Rattle.su_schema.specs.Known.{is_known}
use Rattle.su_schema.proofs.Numbers.{is_known-place_of}

-- no name that was read stands twice
abbrev pub ColumnsSoFar : List Column → ℕ → Type 0
ColumnsSoFar columns i = first_failing (apart_checks [] (column_names columns)) ≡ first_failing (apart_checks (column_names (take i columns)) (column_names (drop i columns)))

module _ (columns : List Column) (i : ℕ) (far : ColumnsSoFar columns i) (column : Column) (within : i < length columns) (at : column ≡ get_or columns i column) where
  here : first_failing (apart_checks [] (column_names columns)) ≡ first_failing (apart_checks (column_names (take i columns)) (column.name ∷ column_names (drop (i + 1) columns)))
  here =
      let cut : drop i columns ≡ column ∷ drop (i + 1) columns = rw add-one (drop-cons columns i column within ∙ ap (λ c. c ∷ drop (suc i) columns) (sym at)) in
      far ∙ ap (λ rest. first_failing (apart_checks (column_names (take i columns)) (column_names rest))) cut

  known : (there : Bool) → there ≡ is_some (place_of (column_names (take i columns)) column.name) → is_known (column_names (take i columns)) column.name ≡ there
  known there e = is_known-place_of (column_names (take i columns)) column.name ∙ sym e

  pub column_twice : true ≡ is_some (place_of (column_names (take i columns)) column.name) → first_failing (apart_checks [] (column_names columns)) ≡ Some (Twice column.name)
  column_twice there = let twice : is_known (column_names (take i columns)) column.name ≡ true = known true there in here ∙ rw twice refl

  pub column_next : false ≡ is_some (place_of (column_names (take i columns)) column.name) → ColumnsSoFar columns (i + 1)
  column_next new =
      let fresh : is_known (column_names (take i columns)) column.name ≡ false = known false new in
      let more : take (i + 1) columns ≡ take i columns ++ column ∷ [] = take_more columns i column within ∙ ap (λ c. take i columns ++ c ∷ []) (sym at) in
      here ∙ rw (fresh, more, map-append) refl
