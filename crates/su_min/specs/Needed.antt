-- No kept term can be spared, whatever other tableaux one takes.
-- class of term c: the terms that are alike to it
-- a list has the answers of a class: over every universal relation each answer of some term of the class is one of some tableau of the list, and each of these is one of those
use Rattle.std.specs.Prelude.{◌≡◌, ◌<◌, ◌≤◌, ◌↔◌, ℕ, List, length, All, Contains}
use Rattle.su_base.specs.declared.values.Value.{Value}
use Rattle.su_base.specs.Lists.{AreExactly}
use Rattle.su_tableau.specs.Tableaux.{Tab, IsValid}
use Rattle.su_tableau.specs.Valuations.{Ext}
use Rattle.su_tableau.specs.Kinds.{Kinds, IsUniverse, IsTyped}
use Rattle.su_tableau.specs.Equivalent.{IsEquivalent}
use Rattle.su_min.specs.Kept.{Minimised}
use Rattle.su_min.specs.Cover.{AreAlike}
use Rattle.su_min.specs.Reduction.{term_at}

-- the tableau of term i
abbrev pub tableau_at : List Minimised → ℕ → Tab
tableau_at terms i = (term_at terms i).tableau

-- term i is alike to term c
pub record IsInClass (terms : List Minimised) (c i : ℕ) : Type 0 where
  pub below : i < length terms
  pub alike : AreAlike (tableau_at terms c) (tableau_at terms i)

-- an answer of some term that is alike to term c
pub record IsClassAnswer (terms : List Minimised) (c : ℕ) (universe : List (List Value)) (h : List Value) : Type 0 where
  pub term : ℕ
  pub in_class : IsInClass terms c term
  pub answer : Ext (tableau_at terms term) universe h

-- an answer of some tableau of the list
pub record IsListAnswer (tableaux : List Tab) (universe : List (List Value)) (h : List Value) : Type 0 where
  pub tableau : Tab
  pub member : Contains tableaux tableau
  pub answer : Ext tableau universe h

-- over every universal relation the tableaux give what the terms give that are alike to term c
abbrev pub HasAnswersOf : Kinds → List Minimised → ℕ → List Tab → Type 0
HasAnswersOf kinds terms c tableaux = (universe : List (List Value)) (h : List Value) → IsUniverse kinds universe → (IsClassAnswer terms c universe h ↔ IsListAnswer tableaux universe h)

-- a member of the list that is equivalent to term i
pub record HasMember (kinds : Kinds) (terms : List Minimised) (tableaux : List Tab) (i : ℕ) : Type 0 where
  pub tableau : Tab
  pub member : Contains tableaux tableau
  pub same : IsEquivalent kinds (tableau_at terms i) tableau

-- each kept term of the class is equivalent to a member of the list, no two of them are equivalent, and so they are no more than it has members
pub record AreNeeded (kinds : Kinds) (terms : List Minimised) (kept : List ℕ) (c : ℕ) (tableaux : List Tab) : Type 0 where
  pub members : (i : ℕ) → Contains kept i → IsInClass terms c i → HasMember kinds terms tableaux i
  pub apart : (i j : ℕ) → Contains kept i → Contains kept j → IsInClass terms c i → IsInClass terms c j → IsEquivalent kinds (tableau_at terms i) (tableau_at terms j) → i ≡ j
  pub count : (numbers : List ℕ) → AreExactly (λ i. (i < length terms) × (Contains kept i × IsInClass terms c i)) numbers → length numbers ≤ length tableaux

-- no kept term can be spared, whatever kinds fit the terms and whatever valid tableaux of these kinds one takes for those of a class
abbrev pub NoneIsSpare : List Minimised → List ℕ → Type 0
NoneIsSpare terms kept = (kinds : Kinds) (c : ℕ) (tableaux : List Tab) → All (λ m. IsTyped kinds m.tableau) terms → All (λ t. IsValid t × IsTyped kinds t) tableaux → HasAnswersOf kinds terms c tableaux
    → AreNeeded kinds terms kept c tableaux
