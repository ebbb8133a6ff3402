-- The lines of what is kept of a term.
-- kept rows: those of the term's mask, ascending; fold: for each row the kept row to which it goes
-- source: an object that may answer for a kept row; cover: the kept term that answers for a dropped one
-- Terms and rows are numbered from 0. Each line ends with a line feed.
use Rattle.std.specs.Prelude.{◌≡◌, ◌⊎◌, ◌↔◌, ℕ, ◌==◌, IsTrue, List, [], ◌++◌, find, Contains, Option, Some, None, codes, decimal}
use Rattle.std.specs.Ordering.{nat_cmp}
use Rattle.std.specs.FinSet.{FinSet, contains}
use Rattle.su_map.specs.Lists.{row_numbers}
use Rattle.su_schema.specs.SchemaValue.{SchemaValue}
use Rattle.su_steps.specs.Sources.{IsSource}
use Rattle.su_min.specs.declared.reduced.Cover.{Cover}
use Rattle.su_min.specs.declared.reduced.Reduced.{Reduced}
use Rattle.su_min.specs.Kept.{Minimised}
use Rattle.su_show.specs.Lines.{AreLines}
use Rattle.su_lex.specs.Wordings.{numbers_text}
use Rattle.su_show.specs.Values.{objects_text}

-- the kept rows
abbrev pub kept_line : Minimised → List ℕ
kept_line m = codes "  kept" ++ numbers_text (row_numbers m.tableau m.mask) ++ codes "\n"

-- for each row the kept row to which it goes
abbrev pub fold_line : Minimised → List ℕ
fold_line m = codes "  fold" ++ numbers_text m.fold ++ codes "\n"

-- what is kept of a term
abbrev pub minimal_lines : Minimised → List ℕ
minimal_lines m = kept_line m ++ fold_line m

-- a row and the objects of a set
abbrev pub sources_line : SchemaValue → ℕ → FinSet nat_cmp → List ℕ
sources_line schema r set = codes "  sources " ++ decimal r ++ objects_text schema set ++ codes "\n"

-- the line of a kept row and its sources
pub record IsSourcesLine (schema : SchemaValue) (m : Minimised) (r : ℕ) (line : List ℕ) : Type 0 where
  pub sources : FinSet nat_cmp
  pub are : (o : ℕ) → IsTrue (contains sources o) ↔ IsSource schema m.tableau m.mask r o
  pub is : line ≡ sources_line schema r sources

-- what covers a dropped term, and by which rows
abbrev pub cover_line : Cover → List ℕ
cover_line c = codes "  covered by term " ++ decimal c.by ++ codes " rows" ++ numbers_text c.mapping.list ++ codes "\n"

-- the cover of the term with this number
abbrev pub cover_of : Reduced → ℕ → Option Cover
cover_of reduced i = find (λ c. c.dropped == i) reduced.covers

-- the line of the cover, if the term is dropped
abbrev pub cover_text : Option Cover → List ℕ
cover_text None = []
cover_text (Some c) = cover_line c

-- the sources of each kept row of a kept term, or the cover of a dropped one
abbrev pub IsEnd : SchemaValue → Reduced → ℕ → Minimised → List ℕ → Type 0
IsEnd schema reduced i m end =
    (Contains reduced.kept i × AreLines (IsSourcesLine schema m) (row_numbers m.tableau m.mask) end)
    ⊎ ((¬ Contains reduced.kept i) × (end ≡ cover_text (cover_of reduced i)))
