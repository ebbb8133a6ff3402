-- The least table names the classes of all closed partitions, whatever is asked of a closed one.
use Rattle.std.proofs.Common.{◌≡◌, ℕ, ◌+◌, ◌<◌, ◌≤◌, ⊎_elim, Bool, true, false, cond, List, length, sym, ap, ◌∙◌, subst, arith}
use Rattle.std.proofs.lemmas.Bool.{cases_Bool, cond-true, cond-false, true≢false}
use Rattle.su_fd.specs.declared.dependencies.Fd.{Fd}
use Rattle.su_tableau.specs.declared.symbols.Sym.{Sym}
use Rattle.su_tableau.specs.declared.symbols.Sym.TheVariants.{Const, Var}
use Rattle.su_classes.specs.declared.items.Placed.{Placed}
use Rattle.su_classes.specs.declared.items.Together.{Together}
use Rattle.su_classes.specs.Items.{KeepsAll}
use Rattle.su_classes.specs.Tables.{rep, IsTable, IsLeastTable}
use Rattle.su_classes.specs.ClassNames.{InClass, IsFrom, IsNaming}
use Rattle.su_classes.proofs.Places.{IsNumbering}

-- two known symbols have one name exactly where they have one representative
module _ (base : ℕ) (table : List ℕ) (known : Sym → Bool) (number : Sym → ℕ) (symbol : ℕ → Sym) (m : IsNumbering base (length table) known number symbol) (t : IsTable table) where
  -- the name of a symbol by the table
  abbrev name : Sym → Sym
  name x = cond (known x) (symbol (rep table (number x))) x

  pub rep_in : (x : Sym) → known x ≡ true → rep table (number x) < length table
  rep_in x k = let l = m.number_in x k in let b = t.below (number x) l in omega arith

  pub name_known : (x : Sym) → known x ≡ true → name x ≡ symbol (rep table (number x))
  name_known x k = cond-true (known x) (symbol (rep table (number x))) x k

  pub name_unknown : (x : Sym) → known x ≡ false → name x ≡ x
  name_unknown x k = cond-false (known x) (symbol (rep table (number x))) x k

  -- two items with one symbol are one
  same_item : (i j : ℕ) → i < length table → j < length table → symbol i ≡ symbol j → i ≡ j
  same_item i j l k e = sym (m.forth i l) ∙ ap number e ∙ m.forth j k

  pub same_rep : (x z : Sym) → known x ≡ true → known z ≡ true → name x ≡ name z → rep table (number x) ≡ rep table (number z)
  same_rep x z k l e = same_item (rep table (number x)) (rep table (number z)) (rep_in x k) (rep_in z l) (sym (name_known x k) ∙ e ∙ name_known z l)

  pub same_name : (x z : Sym) → known x ≡ true → known z ≡ true → rep table (number x) ≡ rep table (number z) → name x ≡ name z
  same_name x z k l e = name_known x k ∙ ap symbol e ∙ sym (name_known z l)

  -- a symbol that has a known one's name is known
  pub known_too : (x z : Sym) → known x ≡ true → name x ≡ name z → known z ≡ true
  known_too x z k e =
      ⊎_elim
      (λ (h : known z ≡ true). h)
      (λ (h : known z ≡ false). absurd (true≢false (sym (m.symbol_known (rep table (number x)) (rep_in x k)) ∙ ap known (sym (name_known x k) ∙ e ∙ name_unknown z h) ∙ h)))
      (cases_Bool (known z))

module _ (IsClosed : (Sym → Sym) → Type 0) (fds : List Fd) (rows : List Placed) (equal : List Together) (base : ℕ) (table : List ℕ) (known : Sym → Bool) (number : Sym → ℕ) (symbol : ℕ → Sym)
    (m : IsNumbering base (length table) known number symbol) (least : IsLeastTable fds rows equal table) (kept : (label : Sym → Sym) → IsClosed label → KeepsAll fds rows equal (λ i. label (symbol i))) where
  abbrev t : IsTable table
  t = least.ordered

  abbrev named : Sym → Sym
  named x = cond (known x) (symbol (rep table (number x))) x

  -- items that the table puts together have symbols of one class
  pub item_class : (i : ℕ) → i < length table → InClass IsClosed (symbol i) (symbol (rep table i))
  item_class i l label p = least.within (λ j. label (symbol j)) (kept label p) i l

  pub name_member : (x : Sym) → InClass IsClosed x (named x)
  name_member x label p =
      ⊎_elim
      (λ (k : known x ≡ true). ap label (sym (m.back x k)) ∙ item_class (number x) (m.number_in x k) label p ∙ ap label (sym (name_known base table known number symbol m t x k)))
      (λ (k : known x ≡ false). ap label (sym (name_unknown base table known number symbol m t x k)))
      (cases_Bool (known x))

  module _ (closed : IsClosed named) where
    no_less : (p : ℕ) (z : Sym) → known z ≡ true → rep table (number z) ≡ base + p → rep table (number z) ≤ number z → IsFrom p z
    no_less p (Const c) k r l = let b = m.const_number c k in omega arith
    no_less p (Var q) k r l = let b = m.var_number q in omega arith

    itself : (p : ℕ) → IsFrom p (Var p)
    itself p = omega arith

    -- a known symbol whose name is a variable is a variable of no lesser number
    from_least : (p : ℕ) (z : Sym) → known z ≡ true → named z ≡ Var p → IsFrom p z
    from_least p z k e =
        let s : symbol (rep table (number z)) ≡ Var p = sym (name_known base table known number symbol m t z k) ∙ e in
        let r : rep table (number z) ≡ base + p = sym (m.forth (rep table (number z)) (rep_in base table known number symbol m t z k)) ∙ ap number s ∙ m.var_number p in
        no_less p z k r (t.below (number z) (m.number_in z k))

    pub table_names : IsNaming IsClosed named
    table_names = record {
      member = name_member;
      one_name = λ x z c. c named closed;
      least = λ x p e z c.
          let f : named z ≡ Var p = sym (c named closed) ∙ e in
          ⊎_elim
          (λ (k : known z ≡ true). from_least p z k f)
          (λ (k : known z ≡ false). subst (IsFrom p) (sym f ∙ name_unknown base table known number symbol m t z k) (itself p))
          (cases_Bool (known z));
    }
