-- What the lines below a term may hold.
-- fits: the words of a line are those that its kind asks for
use Rattle.std.specs.Prelude.{ℕ, ◌+◌, ◌==◌, ◌&&◌, nat_lt, Bool, false, List, ◌∷◌, length, codes}
use Rattle.std.specs.List.{list_all}
use Rattle.std.specs.Str.{bytes_eq}
use Rattle.su_explained.specs.declared.states.State.{State}
use Rattle.su_explained.specs.Checks.{is_decimal, is_decimal_below, cells}

-- `term I disjunct D choice C ..`
abbrev pub term_fits : State → List (List ℕ) → Bool
term_fits s (w ∷ number ∷ disjunct ∷ of ∷ choice ∷ choices) =
    is_decimal s.terms number && bytes_eq disjunct (codes "disjunct") && is_decimal_below 1000 of && bytes_eq choice (codes "choice") && list_all (is_decimal_below 1000) choices
term_fits s _ = false

-- `  row R V OBJECT ATTRIBUTE=SYMBOL ..`
abbrev pub row_fits : State → List (List ℕ) → Bool
row_fits s (i ∷ j ∷ w ∷ row ∷ variable ∷ object ∷ words) = is_decimal s.rows row && cells words
row_fits s _ = false

-- `  kept R ..`
abbrev pub kept_fits : State → List (List ℕ) → Bool
kept_fits s (i ∷ j ∷ w ∷ rows) = list_all (is_decimal_below s.rows) rows
kept_fits s _ = false

-- `  fold R ..`, a row for each row
abbrev pub fold_fits : State → List (List ℕ) → Bool
fold_fits s words = (length words == s.rows + 3) && kept_fits s words

-- `  sources R OBJECT ..`, for one more of the kept rows
abbrev pub sources_fit : State → List (List ℕ) → Bool
sources_fit s (i ∷ j ∷ w ∷ row ∷ objects) = is_decimal_below s.rows row && nat_lt s.sources s.kept
sources_fit s _ = false
