-- Which terms of a union are kept, and by which of these a dropped one is covered.
-- dropped: some term covers it that it does not cover, or some earlier term covers it; the others are kept
-- cover: of a dropped term, the kept term of least number that covers it, with the first mapping
use Rattle.std.specs.Prelude.{◌≡◌, ◌<◌, ◌≤◌, ◌⊎◌, ℕ, List, [], map, length, get_or, All}
use Rattle.su_base.specs.Lists.{AreExactly}
use Rattle.su_map.specs.Lists.{Certified, IsFirst}
use Rattle.su_min.specs.declared.reduced.Cover.{Cover}
use Rattle.su_min.specs.declared.reduced.Reduced.{Reduced}
use Rattle.su_min.specs.Kept.{Minimised}
use Rattle.su_min.specs.Cover.{Covers}

-- term i of the list
abbrev pub term_at : List Minimised → ℕ → Minimised
term_at terms i = get_or terms i (record { tableau = record { width = 0; rows = []; head = []; outputs = 0; operators = [] }; mask = 0; fold = [] })

-- another term covers it, and isn't covered by it or comes earlier
pub record IsDropped (terms : List Minimised) (i : ℕ) : Type 0 where
  pub other : ℕ
  pub below : other < length terms
  pub covers : Covers (term_at terms other) (term_at terms i)
  pub why : (Covers (term_at terms i) (term_at terms other) → ⊥) ⊎ (other < i)

-- the term isn't dropped
pub record IsKeptTerm (terms : List Minimised) (i : ℕ) : Type 0 where
  pub below : i < length terms
  pub stays : IsDropped terms i → ⊥

-- term k is the kept one of least number that covers term i
pub record IsLeastCover (terms : List Minimised) (i k : ℕ) : Type 0 where
  pub kept : IsKeptTerm terms k
  pub covers : Covers (term_at terms k) (term_at terms i)
  pub least : (j : ℕ) → IsKeptTerm terms j → Covers (term_at terms j) (term_at terms i) → k ≤ j

-- the first mapping of the kept rows of the one into the kept rows of the other
abbrev pub IsFirstMapping : Minimised → Minimised → Certified → Type 0
IsFirstMapping one other m = (m ≡ record { from = one.tableau; from_mask = one.mask; to = other.tableau; to_mask = other.mask; list = m.list }) × IsFirst one.tableau one.mask other.tableau other.mask m.list

-- the cover of a dropped term, with its mapping
pub record IsCover (terms : List Minimised) (c : Cover) : Type 0 where
  pub least : IsLeastCover terms c.dropped c.by
  pub mapping : IsFirstMapping (term_at terms c.by) (term_at terms c.dropped) c.mapping

-- the kept terms, the dropped ones, and the cover of each dropped one
pub record IsReduced (terms : List Minimised) (r : Reduced) : Type 0 where
  pub kept : AreExactly (λ i. (i < length terms) × IsKeptTerm terms i) r.kept
  pub dropped : AreExactly (λ i. (i < length terms) × IsDropped terms i) (map (λ c. c.dropped) r.covers)
  pub covers : All (IsCover terms) r.covers
