-- Shapes of cells, cell by cell.
use Rattle.std.proofs.Common.{◌≡◌, ◌<◌, ◌≤◌, ◌+◌, ℕ, List, [], ◌∷◌, ◌++◌, length, get_or, Contains, refl, sym, ap, subst, ◌∙◌, ⊎_elim, arith}
use Rattle.std.specs.Prelude.{map}
use Rattle.std.proofs.lemmas.Bool.{cases_lt}
use Rattle.std.proofs.lemmas.List.{get_or_append_left, get_or_push, length_push, map_push, length-map, get_or-map}
use Rattle.std.proofs.lemmas.List.Elements.{Contains-get_or}
use Rattle.su_tableau.specs.declared.symbols.Sym.{Sym}
use Rattle.su_tableau.specs.declared.symbols.Sym.TheVariants.{Var}
use Rattle.su_reduce.specs.Shapes.{IsShapeOf, cell_at, variable_place}
use Rattle.su_reduce.proofs.Places.{contains_at, firsts_more, place_holds, place_least, one_var}

-- ---- one cell more

-- the cell adds no variable
pub shape_on : (cells : List Sym) (n q : ℕ) (vars firsts places : List ℕ) → IsShapeOf cells n vars firsts places → q < length cells → ((k : ℕ) → cell_at cells n ≡ Var k → q ≡ variable_place cells k) → ((k : ℕ) → cell_at cells n ≡ Var k → Contains vars k) → IsShapeOf cells (n + 1) vars firsts (places ++ q ∷ [])
shape_on cells n q vars firsts places shape low is here = record {
  differ = shape.differ;
  each = λ k. (
    λ c. let x = (shape.each k).0 c in let l = x.1 in (x.0, omega (arith, l), x.2),
    λ x.
        let l = x.1 in
        ⊎_elim
        (λ (b : x.0 < n). (shape.each k).1 (x.0, b, x.2))
        (λ (b : n ≤ x.0). let same : x.0 ≡ n = omega (arith, l, b) in here k (subst (λ p. cell_at cells p ≡ Var k) same x.2))
        (cases_lt x.0 n),
  );
  firsts_are = shape.firsts_are;
  places_are = firsts_more cells n places q shape.places_are low is;
}

-- a variable whose place is before the cell is there already
pub shape_again : (cells : List Sym) (n k : ℕ) (vars firsts places : List ℕ) → IsShapeOf cells n vars firsts places → n < length cells → cell_at cells n ≡ Var k → (variable_place cells k ≡ n → ⊥) → Contains vars k
shape_again cells n k vars firsts places shape low is other =
    let most = place_least cells k n low is in
    (shape.each k).1 (variable_place cells k, omega (arith, most, other), (place_holds cells k (contains_at cells n k low is)).1)

-- a variable whose place is the cell is new
pub shape_new : (cells : List Sym) (n k : ℕ) (vars firsts places : List ℕ) → IsShapeOf cells n vars firsts places → n < length cells → cell_at cells n ≡ Var k → variable_place cells k ≡ n → IsShapeOf cells (n + 1) (vars ++ k ∷ []) (firsts ++ n ∷ []) (places ++ n ∷ [])
shape_new cells n k vars firsts places shape low is first =
    let none : Contains vars k → ⊥ = λ c.
    let x = (shape.each k).0 c in
    let l = x.1 in
    let most = place_least cells k x.0 (omega (arith, l, low)) x.2 in
    omega (arith, l, most, first) in
    let long = length_push vars k in
    record {
      differ = λ i j l m e.
          ⊎_elim
          (λ (b : j < length vars). shape.differ i j l b (sym (get_or_append_left vars (k ∷ []) 0 i (omega (arith, l, b))) ∙ e ∙ get_or_append_left vars (k ∷ []) 0 j b))
          (λ (b : length vars ≤ j).
          let same : j ≡ length vars = omega (arith, m, long, b) in
          let last : get_or (vars ++ k ∷ []) j 0 ≡ k = get_or_push vars k 0 j (sym same) in
          let below : i < length vars = omega (arith, l, same) in
          none (subst (λ y. Contains vars y) (sym (get_or_append_left vars (k ∷ []) 0 i below) ∙ e ∙ last) (Contains-get_or vars i 0 below)))
          (cases_lt j (length vars));
      each = λ y. (
        λ c.
            let l = c.1 in
            ⊎_elim
            (λ (b : c.0 < length vars).
            let x = (shape.each y).0 (c.0, b, sym (get_or_append_left vars (k ∷ []) y c.0 b) ∙ c.2) in
            let m = x.1 in
            (x.0, omega (arith, m), x.2))
            (λ (b : length vars ≤ c.0).
            let same : c.0 ≡ length vars = omega (arith, l, long, b) in
            let it : k ≡ y = sym (get_or_push vars k y c.0 (sym same)) ∙ c.2 in
            (n, omega arith, is ∙ ap Var it))
            (cases_lt c.0 (length vars)),
        λ x.
            let l = x.1 in
            ⊎_elim
            (λ (b : x.0 < n).
            let c = (shape.each y).1 (x.0, b, x.2) in
            let m = c.1 in
            (c.0, omega (arith, m, long), get_or_append_left vars (k ∷ []) y c.0 m ∙ c.2))
            (λ (b : n ≤ x.0).
            let same : x.0 ≡ n = omega (arith, l, b) in
            let it : k ≡ y = one_var (cell_at cells n) k y is (subst (λ p. cell_at cells p ≡ Var y) same x.2) in
            (length vars, omega (arith, long), get_or_push vars k y (length vars) refl ∙ it))
            (cases_lt x.0 n),
      );
      firsts_are = ap (λ ps. ps ++ n ∷ []) shape.firsts_are ∙ (ap (λ p. map (variable_place cells) vars ++ p ∷ []) (sym first) ∙ sym (map_push (variable_place cells) vars k));
      places_are = firsts_more cells n places n shape.places_are low (λ j other. sym first ∙ ap (variable_place cells) (one_var (cell_at cells n) k j is other));
    }

-- ---- what a shape says

module _ (cells : List Sym) (n : ℕ) (vars firsts places : List ℕ) (shape : IsShapeOf cells n vars firsts places) where
  -- each variable has a place
  pub shape_length : length firsts ≡ length vars
  shape_length = ap length shape.firsts_are ∙ length-map vars (variable_place cells)

  pub first_at : (j d : ℕ) → j < length vars → get_or firsts j d ≡ variable_place cells (get_or vars j 0)
  first_at j d l = ap (λ ps. get_or ps j d) shape.firsts_are ∙ get_or-map (variable_place cells) vars j 0 d l
