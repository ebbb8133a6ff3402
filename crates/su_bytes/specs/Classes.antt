-- Classes of terms over universal relations of bytes.
-- class of term c: the terms that are alike to it; the answers of a class: as where kept terms are shown to be needed
use Rattle.std.specs.Prelude.{◌↔◌, ℕ, List, All}
use Rattle.su_base.specs.declared.values.Value.{Value}
use Rattle.su_tableau.specs.Tableaux.{Tab}
use Rattle.su_tableau.specs.Kinds.{Kinds}
use Rattle.su_tableau.specs.Bytes.{IsByteUniverse}
use Rattle.su_min.specs.Kept.{Minimised}
use Rattle.su_min.specs.Needed.{tableau_at, IsInClass, IsClassAnswer, IsListAnswer, HasAnswersOf}
use Rattle.su_bytes.specs.Constants.{HasByteSymbols}

-- over every universal relation of bytes the tableaux give what the terms give that are alike to term c
abbrev pub HasByteAnswersOf : Kinds → List Minimised → ℕ → List Tab → Type 0
HasByteAnswersOf kinds terms c tableaux = (universe : List (List Value)) (h : List Value) → IsByteUniverse kinds universe → (IsClassAnswer terms c universe h ↔ IsListAnswer tableaux universe h)

-- where the constants of the class's terms and of the tableaux are of bytes, they then do so over every universal relation
abbrev pub BytesSufficeForClasses : Type 0
BytesSufficeForClasses = (kinds : Kinds) (terms : List Minimised) (c : ℕ) (tableaux : List Tab) → ((i : ℕ) → IsInClass terms c i → HasByteSymbols (tableau_at terms i)) → All HasByteSymbols tableaux
    → HasByteAnswersOf kinds terms c tableaux → HasAnswersOf kinds terms c tableaux
