-- What the words of a line must be, behind the lines before it.
-- Words are counted from 0; a line of a term has two empty words in front. Rows, terms and maximal objects are numbered from 0.
-- to fit: to have the words that a line of this kind has there; state: what the lines before it told and counted
use Rattle.std.specs.Prelude.{ℕ, ◌==◌, ◌&&◌, nat_lt, Bool, false, List, [], ◌∷◌, length, codes}
use Rattle.std.specs.List.{list_all}
use Rattle.std.specs.Str.{bytes_eq}
use Rattle.su_explained.specs.declared.kinds.Kind.{Kind}
use Rattle.su_explained.specs.declared.kinds.Kind.TheVariants.{Query, Variables, Term, Row, Head, Compare, Kept, Fold, Sources, Covered, Count, Attribute, Relation, Object, Dependency, Declared, Maximal}
use Rattle.su_explained.specs.declared.states.State.{State}
use Rattle.su_explained.specs.Checks.{is_decimal, is_decimal_below}
use Rattle.su_explained.specs.Definitions.{attribute_fits, object_fits, maximal_fits}
use Rattle.su_explained.specs.TermLines.{term_fits, row_fits, kept_fits, fold_fits, sources_fit}

-- behind `covered`: `by term I rows R ..`
abbrev pub cover_words_fit : State → List (List ℕ) → Bool
cover_words_fit s (by ∷ term ∷ number ∷ rows ∷ targets) =
    bytes_eq by (codes "by") && bytes_eq term (codes "term") && is_decimal_below 1000 number && bytes_eq rows (codes "rows") && list_all (is_decimal_below s.rows) targets
cover_words_fit s _ = false

-- `  covered by term I rows R ..`
abbrev pub cover_fits : State → List (List ℕ) → Bool
cover_fits s (i ∷ j ∷ w ∷ words) = cover_words_fit s words
cover_fits s _ = false

-- `terms N kept M`
abbrev pub count_fits : State → List (List ℕ) → Bool
count_fits s (w ∷ terms ∷ kept ∷ number ∷ []) = is_decimal s.terms terms && bytes_eq kept (codes "kept") && is_decimal s.kept_terms number
count_fits s _ = false

-- the words are those of a line of this kind
abbrev pub fits : State → Kind → List (List ℕ) → Bool
fits s Query words = nat_lt 1 (length words)
fits s Variables words = nat_lt 1 (length words)
fits s Term words = term_fits s words
fits s Row words = row_fits s words
fits s Head words = nat_lt 3 (length words)
fits s Compare words = length words == 6
fits s Kept words = nat_lt 3 (length words) && kept_fits s words
fits s Fold words = fold_fits s words
fits s Sources words = sources_fit s words
fits s Covered words = cover_fits s words
fits s Count words = count_fits s words
fits s Attribute words = attribute_fits words
fits s Relation words = nat_lt 3 (length words)
fits s Object words = object_fits words
fits s Dependency words = nat_lt 3 (length words)
fits s Declared words = nat_lt 1 (length words)
fits s Maximal words = maximal_fits s words
