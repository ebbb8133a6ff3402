-- When some valuation gives cells the values of a row.
use Rattle.std.proofs.Common.{◌≡◌, ◌↔◌, ◌<◌, ℕ, Bool, IsTrue, List, length, refl, sym, ap, ◌∙◌, arith}
use Rattle.std.specs.Prelude.{pos}
use Rattle.std.proofs.lemmas.List.{get_or-map, get_or_default, length-map, same_lists}
use Rattle.su_base.specs.declared.values.Value.{Value}
use Rattle.su_base.specs.declared.values.Value.TheVariants.{Int}
use Rattle.su_tableau.specs.declared.symbols.Sym.{Sym}
use Rattle.su_tableau.specs.declared.symbols.Sym.TheVariants.{Const, Var}
use Rattle.su_tableau.specs.Valuations.{nth, value_of, values_of}
use Rattle.su_reduce.specs.Shapes.{Fits, cell_at, variable_place}
use Rattle.su_reduce.specs.inside.Keys.{FitsAt, assigned}
use Rattle.su_reduce.proofs.Places.{assigned_is, contains_at}

value_agree : (v w : ℕ → Value) (cell : Sym) → ((k : ℕ) → cell ≡ Var k → v k ≡ w k) → value_of v cell ≡ value_of w cell
value_agree v w (Const c) h = refl
value_agree v w (Var k) h = h k refl

module _ (cells : List Sym) (xs : List Value) where
  -- values that fit at each place are what a valuation gives
  pub fits_from : length xs ≡ length cells → ((p : ℕ) → p < length cells → FitsAt cells xs p) → Fits cells xs
  fits_from long all =
      let w : ℕ → Value = assigned cells xs in
      let m = length-map cells (value_of w) in (
        w,
        same_lists (values_of w cells) xs (m ∙ sym long) (λ p d l.
            let low : p < length cells = omega (arith, l, m) in
            get_or-map (value_of w) cells p (Var 0) d low ∙ all p low ∙ sym (get_or_default xs p d (Int (pos 0)) (omega (arith, low, long)))),
      )

  -- what a valuation gives fits at each place
  pub fits_to : (v : ℕ → Value) → values_of v cells ≡ xs → (p : ℕ) → p < length cells → FitsAt cells xs p
  fits_to v gives p low =
      value_agree (assigned cells xs) v (cell_at cells p) (λ k is. assigned_is v cells xs k gives (contains_at cells p k low is)) ∙ sym (get_or-map (value_of v) cells p (Var 0) (Int (pos 0)) low) ∙ ap (λ ys. nth ys p) gives

  -- a constant asks for itself
  pub fits_constant : (p : ℕ) (r : Bool) (value constant : Value) → IsTrue r ↔ (value ≡ constant) → value ≡ nth xs p → cell_at cells p ≡ Const constant → IsTrue r ↔ FitsAt cells xs p
  fits_constant p r value constant same at is =
      let asks : value_of (assigned cells xs) (cell_at cells p) ≡ constant = ap (value_of (assigned cells xs)) is in
      (λ t. asks ∙ (sym (same.0 t) ∙ at), λ f. same.1 (at ∙ (sym f ∙ asks)))

  -- a variable asks for the value at its place
  pub fits_variable : (p k q : ℕ) (r : Bool) → IsTrue r ↔ (nth xs p ≡ nth xs q) → cell_at cells p ≡ Var k → q ≡ variable_place cells k → IsTrue r ↔ FitsAt cells xs p
  fits_variable p k q r same is place =
      let asks : value_of (assigned cells xs) (cell_at cells p) ≡ nth xs q = ap (value_of (assigned cells xs)) is ∙ ap (nth xs) (sym place) in
      (λ t. asks ∙ sym (same.0 t), λ f. same.1 (sym f ∙ asks))
