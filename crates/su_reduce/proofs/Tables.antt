-- Parents by the table of sets are parents.
use Rattle.std.proofs.Common.{◌≡◌, ◌<◌, ℕ, List, [], length, get_or, Contains, Option, None, Some, sym, subst, ◌∙◌, arith}
use Rattle.std.specs.Ordering.{nat_cmp}
use Rattle.std.specs.FinSet.{FinSet}
use Rattle.std.proofs.lemmas.List.{get_or_default}
use Rattle.su_tableau.specs.declared.symbols.Sym.{Sym}
use Rattle.su_tableau.specs.declared.symbols.Sym.TheVariants.{Var}
use Rattle.su_reduce.specs.Ears.{HasVar, IsParent}
use Rattle.su_reduce.specs.Shapes.{cell_at}
use Rattle.su_reduce.specs.inside.Partners.{In, AreSets, IsParentBy}
use Rattle.su_tableau.proofs.SymbolParts.{same_var}
use Rattle.su_reduce.proofs.Places.{contains_at}

-- a cell that has the variable
cell_with : (cells : List Sym) (k : ℕ) → Contains cells (Var k) → (c : ℕ) × (c < length cells) × (cell_at cells c ≡ Var k)
cell_with cells k (c, l, e) = (c, l, get_or_default cells c (Var 0) (Var k) l ∙ e)

pub parent_from : (edges : List (List Sym)) (e : ℕ) (sets : List (FinSet nat_cmp)) (others : FinSet nat_cmp) → AreSets edges (get_or edges e []) sets → (parent : Option ℕ) → IsParentBy sets others parent → IsParent edges e (In others) parent
parent_from edges e sets others t None h = λ j k o s.
    let at = cell_with (get_or edges e []) k s.0 in
    let below : at.0 < length sets = omega (arith, t.same_length, at.1) in
    h at.0 j below o ((t.each at.0 below j).1 (k, at.2, s.1))
parent_from edges e sets others t (Some p) h = (
  h.0,
  λ j k o s.
      let at = cell_with (get_or edges e []) k s.0 in
      let below : at.0 < length sets = omega (arith, t.same_length, at.1) in
      let touched = (t.each at.0 below p).0 (h.1 at.0 j below o ((t.each at.0 below j).1 (k, at.2, s.1))) in
      subst (HasVar edges p) (same_var touched.0 k (sym touched.1 ∙ at.2)) touched.2,
)

pub parent_by : (edges : List (List Sym)) (e : ℕ) (sets : List (FinSet nat_cmp)) (others : FinSet nat_cmp) → AreSets edges (get_or edges e []) sets → (parent : Option ℕ) → IsParent edges e (In others) parent → IsParentBy sets others parent
parent_by edges e sets others t None h = λ c j l o i.
    let touched = (t.each c l j).0 i in
    h j touched.0 o (contains_at (get_or edges e []) c touched.0 (omega (arith, t.same_length, l)) touched.1, touched.2)
parent_by edges e sets others t (Some p) h = (
  h.0,
  λ c j l o i.
      let touched = (t.each c l j).0 i in
      (t.each c l p).1 (touched.0, touched.1, h.1 j touched.0 o (contains_at (get_or edges e []) c touched.0 (omega (arith, t.same_length, l)) touched.1, touched.2)),
)
