-- A path goes up where some name of it is `..`: what another name is says nothing.
use Rattle.std.proofs.Common.{◌≡◌, ◌↔◌, ℕ, ap, arith, length, List, ◌∷◌, Contains, refl, sym, subst, ⊎_elim}
use Rattle.std.specs.Path.{component_bytes, parent_dir, IsWellFormedComponent}
use Rattle.std.specs.declared.path.components.Component.{Component}
use Rattle.std.specs.declared.path.components.Component.TheVariants.{RootDir, CurDir, ParentDir, Normal}
use Rattle.su_base.proofs.Items.{Contains-cases, Contains-later}

-- only `..` is told so
other : (part : Component) → IsWellFormedComponent part → ¬ (part ≡ ParentDir) → ¬ (component_bytes part ≡ parent_dir)
other RootDir formed another is = absurd (omega (arith, ap (λ (text : List ℕ). length text) is))
other CurDir formed another is = absurd (omega (arith, ap (λ (text : List ℕ). length text) is))
other ParentDir formed another is = another refl
other (Normal name) formed another is = formed.1 is

-- behind a name that is another, what is left goes up where both do
pub goes_up_behind : (before after : List (List ℕ)) (part : Component) → before ≡ component_bytes part ∷ after → IsWellFormedComponent part → ¬ (part ≡ ParentDir)
    → Contains before parent_dir ↔ Contains after parent_dir
goes_up_behind before after part is formed another = (
  λ has. ⊎_elim (λ (same : component_bytes part ≡ parent_dir). absurd (other part formed another same)) (λ (later : Contains after parent_dir). later)
      (Contains-cases (component_bytes part) after parent_dir (subst (λ (names : List (List ℕ)). Contains names parent_dir) is has)),
  λ has. subst (λ (names : List (List ℕ)). Contains names parent_dir) (sym is) (Contains-later (component_bytes part) after parent_dir has),
)
