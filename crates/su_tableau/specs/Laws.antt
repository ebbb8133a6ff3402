-- Theorems on tableaux, for any tableaux and any relations.
-- frozen, essential: as in FrozenTableaux and Essential
use Rattle.std.specs.Prelude.{◌≡◌, ◌≤◌, ◌↔◌, ℕ, List, length, All}
use Rattle.su_base.specs.declared.values.Kind.{Kind}
use Rattle.su_base.specs.declared.values.Value.{Value}
use Rattle.su_tableau.specs.Tableaux.{Tab, IsValid}
use Rattle.su_tableau.specs.Valuations.{Ext}
use Rattle.su_tableau.specs.Mapping.{Maps}
use Rattle.su_tableau.specs.Parts.{part}
use Rattle.su_tableau.specs.FrozenTableaux.{frozen_head, frozen_rows, tab_top}
use Rattle.su_tableau.specs.Essential.{ExtByEssential}

-- a tableau of which the frozen head is an answer over the frozen rows of another has a mapping to that one
abbrev pub FrozenAnswersAreMappings : Type 0
FrozenAnswersAreMappings = (s t : Tab) (var_kind : ℕ → Kind) (n : ℕ) → tab_top s ≤ n → tab_top t ≤ n → Ext s (frozen_rows var_kind n t) (frozen_head var_kind n t) → Maps s t

-- where rows and relation have the tableau's width, rows that agree at their essential columns alone give the answers of the part
abbrev pub EssentialColumnsSuffice : Type 0
EssentialColumnsSuffice = (t : Tab) (m : ℕ) (universe : List (List Value)) (h : List Value) → IsValid (part t m) → All (λ row. length row ≡ t.width) t.rows → All (λ u. length u ≡ t.width) universe
    → (ExtByEssential t m universe h ↔ Ext (part t m) universe h)
