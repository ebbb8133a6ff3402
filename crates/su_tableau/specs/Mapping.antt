-- Containment mappings between whole tableaux.
-- mapping: symbols go to symbols, constants to themselves, the head to the head place by place, each row to a row
use Rattle.std.specs.Prelude.{◌≡◌, ℕ, List, map, All, Contains}
use Rattle.su_tableau.specs.declared.symbols.Sym.{Sym}
use Rattle.su_tableau.specs.declared.symbols.Sym.TheVariants.{Const, Var}
use Rattle.su_tableau.specs.Tableaux.{Tab}

-- the image of a symbol
abbrev pub image_of : (ℕ → Sym) → Sym → Sym
image_of symbols (Const c) = Const c
image_of symbols (Var k) = symbols k

-- the images of a list of symbols
abbrev pub images_of : (ℕ → Sym) → List Sym → List Sym
images_of symbols xs = map (image_of symbols) xs

-- s has a containment mapping to t
pub record Maps (s t : Tab) : Type 0 where
  pub symbols : ℕ → Sym
  pub head : images_of symbols s.head ≡ t.head
  pub rows : All (λ row. Contains t.rows (images_of symbols row)) s.rows
