-- What the shape of a row's cells says of its candidates.
use Rattle.std.proofs.Common.{◌≡◌, ℕ, suc, ◌<◌, true, false, List, [], ◌∷◌, length, get_or, Contains, sym, ap, subst, ◌∙◌, ⊎_elim, arith}
use Rattle.std.specs.Prelude.{map, nat_eq, pos}
use Rattle.std.proofs.lemmas.Bool.{cases_Bool}
use Rattle.std.proofs.lemmas.Bool.Decides.{nat_tests}
use Rattle.std.proofs.lemmas.List.{get_or-map, get_or_default, length-map, same_lists}
use Rattle.std.proofs.lemmas.List.Elements.{Contains-get_or}
use Rattle.std.proofs.lemmas.List.Folds.{Any-from_list_any, list_any_at}
use Rattle.su_base.specs.declared.values.Value.{Value}
use Rattle.su_base.specs.declared.values.Value.TheVariants.{Int}
use Rattle.su_tableau.specs.declared.symbols.Sym.{Sym}
use Rattle.su_tableau.specs.declared.symbols.Sym.TheVariants.{Var}
use Rattle.su_tableau.specs.Valuations.{values_of}
use Rattle.su_reduce.specs.Sheets.{AreBelow}
use Rattle.su_reduce.specs.Shapes.{IsShapeOf, cell_at, variable_place}
use Rattle.su_reduce.proofs.Places.{contains_at, place_holds, read_value}
use Rattle.su_reduce.proofs.ShapeSteps.{first_at, shape_length}
use Rattle.su_exec.specs.inside.Coded.{picked}
use Rattle.su_exec.specs.inside.Edges.{has}
use Rattle.su_exec.specs.inside.Joins.{IsApart}

-- variables that differ are apart
apart_from : (vars : List ℕ) → ((i j : ℕ) → i < j → j < length vars → ¬ (get_or vars i 0 ≡ get_or vars j 0)) → IsApart vars
apart_from [] differ = tt
apart_from (x ∷ xs) differ =
    let none : has xs x ≡ true → ⊥ = λ h.
    let w = Any-from_list_any (λ y. nat_eq y x) xs h in
    let low = w.2 in
    let t = w.4 in
    let is : w.1 ≡ x = grind (arith, nat_tests, t) in
    differ 0 (suc w.0) (omega arith) (omega (arith, low)) (sym (get_or_default xs w.0 0 w.1 low ∙ w.3 ∙ is)) in (
      ⊎_elim (λ (h : has xs x ≡ true). absurd (none h)) (λ (h : has xs x ≡ false). h) (cases_Bool (has xs x)),
      apart_from xs (λ i j l m. differ (suc i) (suc j) (omega (arith, l)) (omega (arith, m))),
    )

module _ (cells : List Sym) (vars firsts places : List ℕ) (shape : IsShapeOf cells (length cells) vars firsts places) where
  pub shape_apart : IsApart vars
  shape_apart = apart_from vars shape.differ

  -- each variable stands at its place
  stands : (j : ℕ) → j < length vars → (variable_place cells (get_or vars j 0) < length cells) × (cell_at cells (variable_place cells (get_or vars j 0)) ≡ Var (get_or vars j 0))
  stands j l =
      let k = get_or vars j 0 in
      let x = (shape.each k).0 (Contains-get_or vars j 0 l) in
      place_holds cells k (contains_at cells x.0 k x.1 x.2)

  pub shape_below : AreBelow firsts (length cells)
  shape_below j d l =
      let n = shape_length cells (length cells) vars firsts places shape in
      let low : j < length vars = omega (arith, l, n) in
      subst (λ p. p < length cells) (sym (first_at cells (length cells) vars firsts places shape j d low)) (stands j low).0

  pub shape_has : (k : ℕ) → Contains cells (Var k) → has vars k ≡ true
  shape_has k h =
      let c = (shape.each k).1 (h.0, h.1, get_or_default cells h.0 (Var 0) (Var k) h.1 ∙ h.2) in
      let is : get_or vars c.0 k ≡ k = c.2 in
      list_any_at (λ y. nat_eq y k) vars c.0 k c.1 (grind (arith, nat_tests, is))

  -- what a valuation gives the first places
  pub taken_is : (v : ℕ → Value) (xs : List Value) → xs ≡ values_of v cells → picked firsts xs ≡ map v vars
  taken_is v xs e =
      let read : ℕ → Value = λ p. get_or xs p (Int (pos 0)) in
      let n = shape_length cells (length cells) vars firsts places shape in
      let f = length-map firsts read in
      same_lists (map read firsts) (map v vars) (f ∙ n ∙ sym (length-map vars v)) (λ j d l.
      let low : j < length vars = omega (arith, l, f, n) in
      let k = get_or vars j 0 in
      let at = stands j low in
      get_or-map read firsts j 0 d (omega (arith, low, n)) ∙ ap read (first_at cells (length cells) vars firsts places shape j 0 low) ∙ read_value v cells xs (variable_place cells k) k (sym e) at.0 at.1 ∙ sym (get_or-map v vars j 0 d low))
