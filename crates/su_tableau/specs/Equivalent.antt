-- Inclusion and equivalence over every universal relation, and least tableaux.
-- within, equivalent: by the answers over every universal relation of the kinds; least: no equivalent tableau has fewer rows; least form: of a tableau, a valid one that is equivalent and least
use Rattle.std.specs.Prelude.{◌≤◌, ◌↔◌, List, length}
use Rattle.su_base.specs.declared.values.Value.{Value}
use Rattle.su_tableau.specs.Tableaux.{Tab, IsValid}
use Rattle.su_tableau.specs.Valuations.{Ext}
use Rattle.su_tableau.specs.Kinds.{Kinds, IsUniverse, IsTyped}

-- over every universal relation of these kinds each answer of s is one of t
abbrev pub IsWithin : Kinds → Tab → Tab → Type 0
IsWithin kinds s t = (universe : List (List Value)) (h : List Value) → IsUniverse kinds universe → Ext s universe h → Ext t universe h

-- over every universal relation of these kinds the two have the same answers
abbrev pub IsEquivalent : Kinds → Tab → Tab → Type 0
IsEquivalent kinds s t = (universe : List (List Value)) (h : List Value) → IsUniverse kinds universe → (Ext s universe h ↔ Ext t universe h)

-- no valid, well typed tableau that is equivalent has fewer rows
abbrev pub IsLeast : Kinds → Tab → Type 0
IsLeast kinds t = (s : Tab) → IsValid s → IsTyped kinds s → IsEquivalent kinds s t → length t.rows ≤ length s.rows

-- s is valid, has the answers of t over every universal relation of these kinds, and no valid, well typed tableau that does has fewer rows
pub record IsLeastForm (kinds : Kinds) (t s : Tab) : Type 0 where
  pub valid : IsValid s
  pub equivalent : IsEquivalent kinds s t
  pub least : IsLeast kinds s
