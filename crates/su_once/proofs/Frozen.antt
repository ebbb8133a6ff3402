-- A tableau is frozen in one way, where the same values are avoided.
use Rattle.std.proofs.Common.{◌≡◌, ◌↔◌, ◌<◌, ℕ, zero, suc, List, [], map, get_or, Contains, inl, inr, refl, ap, sym, ◌∙◌, subst, arith}
use Rattle.std.proofs.lemmas.Bool.{cases_lt}
use Rattle.std.proofs.lemmas.List.{get_or_default, get_or-map}
use Rattle.su_base.specs.declared.values.Kind.{Kind}
use Rattle.su_base.specs.declared.values.Value.{Value}
use Rattle.su_base.proofs.Items.{map-equal_at}
use Rattle.su_tableau.specs.declared.symbols.Sym.{Sym}
use Rattle.su_tableau.specs.declared.symbols.Sym.TheVariants.{Const, Var}
use Rattle.su_tableau.specs.Tableaux.{Tab, Occurs}
use Rattle.su_tableau.specs.Valuations.{value_of, values_of}
use Rattle.su_tableau.specs.Kinds.{sym_kind}
use Rattle.su_chase.specs.Frozen.{candidate, IsTaken, IsFirstFree, IsFrozen}
use Rattle.su_chase.specs.declared.freezing.Frozen.{Frozen}
use Rattle.su_chase.proofs.FrozenValues.{row_occurs}
use Rattle.su_once.specs.Verdicts.{OneFreezing}

-- values that are avoided, and the same values in another order
module _ (rows : List (List Sym)) (avoid others : List Value) (same : (v : Value) → Contains avoid v → Contains others v) (v w : ℕ → Value) (k : ℕ) (earlier : (j : ℕ) → j < k → Occurs rows j → v j ≡ w j) where
  taken_moves : (c : Value) → IsTaken rows avoid v k c → IsTaken rows others w k c
  taken_moves c (inl avoided) = inl (same c avoided)
  taken_moves c (inr (j, less, stands, is)) = inr (j, less, stands, sym (earlier j less stands) ∙ is)

module _ (kinds : List Kind) (t : Tab) (avoid others : List Value) (f g : Frozen) (same : (v : Value) → Contains avoid v ↔ Contains others v) (x : IsFrozen kinds t avoid f) (y : IsFrozen kinds t others g) where
  -- a variable has the kind of its column
  one_kind : (k : ℕ) → Occurs t.rows k → x.var_kind k ≡ y.var_kind k
  one_kind k (i, low, (p, within, is)) =
      let row = get_or t.rows i [] in
      let here : get_or row p (Var k) ≡ Var k = get_or_default row p (Var k) (Var k) within ∙ is in
      let both : map (sym_kind x.var_kind) row ≡ map (sym_kind y.var_kind) row = x.fits i [] low ∙ sym (y.fits i [] low) in
      let d = x.var_kind k in
      sym (ap (sym_kind x.var_kind) here) ∙ sym (get_or-map (sym_kind x.var_kind) row p (Var k) d within) ∙ ap (λ ks. get_or ks p d) both ∙ get_or-map (sym_kind y.var_kind) row p (Var k) d within ∙ ap (sym_kind y.var_kind) here

  -- a variable whose lesser ones have the same values has the same value
  module _ (k : ℕ) (stands : Occurs t.rows k) (earlier : (j : ℕ) → j < k → Occurs t.rows j → x.valuation j ≡ y.valuation j) where
    one_number : (a : IsFirstFree t.rows avoid x.valuation (x.var_kind k) k) (b : IsFirstFree t.rows others y.valuation (y.var_kind k) k) → a.number ≡ b.number
    one_number a b = elim (cases_lt a.number b.number) [
      | inl less ↦
          let taken = taken_moves t.rows others avoid (λ v. (same v).1) y.valuation x.valuation k (λ j low there. sym (earlier j low there)) (candidate (y.var_kind k) a.number) (b.least a.number less) in
          absurd (a.free (subst (λ kind. IsTaken t.rows avoid x.valuation k (candidate kind a.number)) (sym (one_kind k stands)) taken))
      | inr from ↦ elim (cases_lt b.number a.number) [
        | inl less ↦
            let taken = taken_moves t.rows avoid others (λ v. (same v).0) x.valuation y.valuation k earlier (candidate (x.var_kind k) b.number) (a.least b.number less) in
            absurd (b.free (subst (λ kind. IsTaken t.rows others y.valuation k (candidate kind b.number)) (one_kind k stands) taken))
        | inr upto ↦ omega (arith, from, upto)
      ]
    ]

    one_value_next : x.valuation k ≡ y.valuation k
    one_value_next =
        let a = x.each k stands in
        let b = y.each k stands in
        let kind = one_kind k stands in
        let number = one_number a b in
        a.is ∙ (λ i. candidate (kind i) (number i)) ∙ sym b.is

  values_below : (n k : ℕ) → k < n → Occurs t.rows k → x.valuation k ≡ y.valuation k
  values_below zero k low stands = absurd (omega (arith, low))
  values_below (suc n) k low stands = one_value_next k stands (λ j less there. values_below n j (omega (arith, less, low)) there)

  symbol_value : (s : Sym) → ((k : ℕ) → s ≡ Var k → Occurs t.rows k) → value_of x.valuation s ≡ value_of y.valuation s
  symbol_value (Const c) stand = refl
  symbol_value (Var k) stand = values_below (suc k) k (omega arith) (stand k refl)

  -- symbols whose variables stand in the rows have the same values
  one_list : (xs : List Sym) → ((k : ℕ) → Contains xs (Var k) → Occurs t.rows k) → values_of x.valuation xs ≡ values_of y.valuation xs
  one_list xs stand = map-equal_at (value_of x.valuation) (value_of y.valuation) xs (λ s there. symbol_value s (λ k is. stand k (subst (Contains xs) is there)))

  pub one_frozen : ((k : ℕ) → Contains t.head (Var k) → Occurs t.rows k) → f ≡ g
  one_frozen stand =
      let rows = map-equal_at (values_of x.valuation) (values_of y.valuation) t.rows (λ row there. one_list row (λ k inside. row_occurs t.rows row k there inside)) in
      let universe : f.universe ≡ g.universe = x.universe ∙ rows ∙ sym y.universe in
      let head : f.head ≡ g.head = x.head ∙ one_list t.head stand ∙ sym y.head in
      λ i. record { universe = universe i; head = head i }

pub one_freezing : OneFreezing
one_freezing kinds t avoid others f g valid same x y = one_frozen kinds t avoid others f g same x y valid.head_occurs
