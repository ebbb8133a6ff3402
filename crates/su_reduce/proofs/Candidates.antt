-- What is read of edges and of their candidates.
use Rattle.std.proofs.Common.{◌≡◌, ◌↔◌, ◌<◌, ℕ, Bool, IsTrue, List, [], length, get_or, subst, ◌∙◌}
use Rattle.std.proofs.lemmas.List.{get_or_default}
use Rattle.su_base.specs.declared.values.Value.{Value}
use Rattle.su_tableau.specs.declared.symbols.Sym.{Sym}
use Rattle.su_reduce.specs.declared.edges.Edge.{Edge}
use Rattle.su_reduce.specs.Left.{edge_at}
use Rattle.su_reduce.specs.Shapes.{Fits}
use Rattle.su_reduce.specs.inside.Marks.{row_at}

-- the edge that is read at n
pub edge_is : (edges : List Edge) (n : ℕ) (e : Edge) → n < length edges → e ≡ get_or edges n e → e ≡ edge_at edges n
edge_is edges n e l is = is ∙ get_or_default edges n e (record { cells = []; candidates = [] }) l

-- the row that is read at n
pub row_is : (rows : List (List Value)) (n : ℕ) (row : List Value) → n < length rows → row ≡ get_or rows n row → row ≡ row_at rows n
row_is rows n row l is = is ∙ get_or_default rows n row [] l

-- a mark tells of the row at n what it tells of the row that is read there
pub told_at : (cells : List Sym) (rows items : List (List Value)) (n : ℕ) (item : List Value) (m : Bool) → items ≡ rows → n < length items → item ≡ get_or items n item → (IsTrue m ↔ Fits cells item) → IsTrue m ↔ Fits cells (row_at rows n)
told_at cells rows items n item m r l is tells =
    subst (λ (rs : List (List Value)). IsTrue m ↔ Fits cells (row_at rs n)) r (subst (λ (x : List Value). IsTrue m ↔ Fits cells x) (row_is items n item l is) tells)
