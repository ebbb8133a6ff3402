-- Terms that are alike, and which of them cover which.
-- alike: as many columns and outputs, the same operators in order, and at each compared place both a variable or both the same constant
-- covers: the two are alike, and the kept rows of the one map into the kept rows of the other; each answer of the other is then one of the one
use Rattle.std.specs.Prelude.{◌≡◌, ℕ, List, drop}
use Rattle.su_tableau.specs.declared.symbols.Sym.{Sym}
use Rattle.su_tableau.specs.declared.symbols.Sym.TheVariants.{Var}
use Rattle.su_tableau.specs.Tableaux.{Tab}
use Rattle.su_tableau.specs.Mapping.{images_of}
use Rattle.su_map.specs.Lists.{IsMapping}
use Rattle.su_min.specs.Kept.{Minimised}

-- the symbols at the compared places, which stand behind the outputs in the head; `Var 0` stands for each variable, so that constants alone are told apart
abbrev pub compared : Tab → List Sym
compared t = images_of (λ k. Var 0) (drop t.outputs t.head)

-- tableaux of one width, with as many outputs, the same operators, and the same constants at the same compared places
pub record AreAlike (s t : Tab) : Type 0 where
  pub width : s.width ≡ t.width
  pub outputs : s.outputs ≡ t.outputs
  pub operators : s.operators ≡ t.operators
  pub constants : compared s ≡ compared t

-- the kept rows of the first map into those of the second, and the two are alike
pub record Covers (one other : Minimised) : Type 0 where
  pub alike : AreAlike one.tableau other.tableau
  pub list : List ℕ
  pub maps : IsMapping one.tableau one.mask other.tableau other.mask list
