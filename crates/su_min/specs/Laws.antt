-- Laws of least tableaux and of unions.
-- kept, cover, class: as in Kept, Reduction and Needed
use Rattle.std.specs.Prelude.{◌<◌, ◌⊎◌, ℕ, List, length, All, Contains}
use Rattle.su_tableau.specs.Tableaux.{Tab, IsValid}
use Rattle.su_tableau.specs.Kinds.{Kinds, IsTyped}
use Rattle.su_min.specs.declared.reduced.Reduced.{Reduced}
use Rattle.su_min.specs.Kept.{Minimised, IsKept, IsMinimised, IsLeastPart}
use Rattle.su_min.specs.Cover.{Covers}
use Rattle.su_min.specs.Reduction.{term_at, IsReduced}
use Rattle.su_min.specs.Needed.{HasAnswersOf, AreNeeded}

-- the kept rows of a valid, well typed tableau have its answers over every universal relation, and no valid, well typed tableau that does has fewer rows
abbrev pub KeptRowsAreLeast : Type 0
KeptRowsAreLeast = (kinds : Kinds) (t : Tab) (m : ℕ) → IsValid t → IsTyped kinds t → IsKept t m → IsLeastPart kinds t m

-- no kept term can be spared, whatever valid, well typed tableaux one takes for the terms of a class
abbrev pub KeptTermsAreNeeded : Type 0
KeptTermsAreNeeded =
    (kinds : Kinds) (terms : List Minimised) (r : Reduced) (c : ℕ) (tableaux : List Tab)
    → All IsMinimised terms → All (λ m. IsTyped kinds m.tableau) terms → IsReduced terms r
    → All (λ t. IsValid t × IsTyped kinds t) tableaux → HasAnswersOf kinds terms c tableaux → AreNeeded kinds terms r.kept c tableaux

-- a kept term that covers term i
pub record HasCover (terms : List Minimised) (kept : List ℕ) (i : ℕ) : Type 0 where
  pub by : ℕ
  pub is_kept : Contains kept by
  pub below : by < length terms
  pub covers : Covers (term_at terms by) (term_at terms i)

-- each term is kept, or covered by a kept one
abbrev pub TermsAreKeptOrCovered : Type 0
TermsAreKeptOrCovered = (terms : List Minimised) (r : Reduced) → IsReduced terms r → (i : ℕ) → i < length terms → Contains r.kept i ⊎ HasCover terms r.kept i
