-- A valuation is changed at the cells that tell nothing.
use Rattle.std.proofs.Common.{◌≡◌, ◌≢◌, ◌⊎◌, ℕ, zero, suc, ◌<◌, ◌≤◌, List, [], ◌∷◌, length, get_or, All, Contains, refl, sym, ap, ◌∙◌, subst, inl, inr, ⊎_elim, arith}
use Rattle.std.specs.Int.{bit_at}
use Rattle.std.proofs.lemmas.Bool.{cases_eq, cases_lt}
use Rattle.std.proofs.lemmas.List.Elements.{All-contains}
use Rattle.std.proofs.lemmas.List.{length-map, get_or-map, get_or_default, same_lists}
use Rattle.su_base.specs.declared.values.Value.{Value}
use Rattle.su_tableau.specs.declared.symbols.Sym.{Sym}
use Rattle.su_tableau.specs.declared.symbols.Sym.TheVariants.{Const, Var}
use Rattle.su_tableau.specs.Tableaux.{Tab, IsValid}
use Rattle.su_tableau.specs.Valuations.{value_of, values_of, Ext}
use Rattle.su_tableau.specs.Parts.{part}
use Rattle.su_tableau.specs.Essential.{AgreeByEssential, HasSymbol, constant, in_head, twice, AgreesOn, ExtByEssential}
use Rattle.su_tableau.proofs.Sets.{select, select-has, select-from}

-- ---- whether a variable stands somewhere

pub record InRow (row : List Sym) (k : ℕ) : Type 0 where
  pub column : ℕ
  pub below : column < length row
  pub is : (d : Sym) → get_or row column d ≡ Var k

pub is_var : (x : Sym) (k : ℕ) → (x ≡ Var k) ⊎ (x ≡ Var k → ⊥)
is_var (Const v) k = inr (λ e. cc)
is_var (Var j) k =
    ⊎_elim
    (λ (same : j ≡ k). inl (ap Var same))
    (λ (other : j ≢ k). inr (λ e. let same : j ≡ k = cc in other same))
    (cases_eq j k)

not_cons : (x : Sym) (xs : List Sym) (k : ℕ) → (x ≡ Var k → ⊥) → (InRow xs k → ⊥) → (c : ℕ) → c < suc (length xs) → ((d : Sym) → get_or (x ∷ xs) c d ≡ Var k) → ⊥
not_cons x xs k first rest zero l e = first (e (Var k))
not_cons x xs k first rest (suc c) l e = rest (record { column = c; below = omega arith; is = e })

pub in_row : (row : List Sym) (k : ℕ) → InRow row k ⊎ (InRow row k → ⊥)
in_row [] k = inr (λ r. absurd (let l = r.below in omega arith))
in_row (x ∷ xs) k =
    ⊎_elim
    (λ (e : x ≡ Var k). inl (record { column = 0; below = omega arith; is = λ d. e }))
    (λ (first : x ≡ Var k → ⊥).
    ⊎_elim
    (λ (r : InRow xs k). inl (record { column = suc r.column; below = let l = r.below in omega arith; is = r.is }))
    (λ (rest : InRow xs k → ⊥). inr (λ r. not_cons x xs k first rest r.column r.below r.is))
    (in_row xs k))
    (is_var x k)

-- the variable stands in one of the first n lines that are looked at
pub record Stands (lines : ℕ → List Sym) (looked : ℕ → ℕ) (n k : ℕ) : Type 0 where
  pub line : ℕ
  pub line_in : line < n
  pub is_looked : looked line ≡ 1
  pub column : ℕ
  pub below : column < length (lines line)
  pub is : (d : Sym) → get_or (lines line) column d ≡ Var k

pub stands : (lines : ℕ → List Sym) (looked : ℕ → ℕ) (n k : ℕ) → Stands lines looked n k ⊎ (Stands lines looked n k → ⊥)
stands lines looked zero k = inr (λ s. absurd (let l = s.line_in in omega arith))
stands lines looked (suc n) k =
    ⊎_elim
    (λ (s : Stands lines looked n k). inl (record { line = s.line; line_in = let l = s.line_in in omega arith; is_looked = s.is_looked; column = s.column; below = s.below; is = s.is }))
    (λ (none : Stands lines looked n k → ⊥).
    let last : ((looked n ≡ 1) → InRow (lines n) k → ⊥) → Stands lines looked (suc n) k → ⊥ = λ not_here s.
    ⊎_elim
    (λ (lt : s.line < n). none (record { line = s.line; line_in = lt; is_looked = s.is_looked; column = s.column; below = s.below; is = s.is }))
    (λ (le : n ≤ s.line).
    let l = s.line_in in
    let e : s.line ≡ n = omega arith in
    not_here (ap looked (sym e) ∙ s.is_looked) (record { column = s.column; below = subst (λ i. s.column < length (lines i)) e s.below; is = λ d. ap (λ i. get_or (lines i) s.column d) (sym e) ∙ s.is d }))
    (cases_lt s.line n) in
    ⊎_elim
    (λ (one : looked n ≡ 1).
    ⊎_elim
    (λ (r : InRow (lines n) k). inl (record { line = n; line_in = omega arith; is_looked = one; column = r.column; below = r.below; is = r.is }))
    (λ (out : InRow (lines n) k → ⊥). inr (last (λ o r. out r)))
    (in_row (lines n) k))
    (λ (other : looked n ≢ 1). inr (last (λ o r. other o)))
    (cases_eq (looked n) 1))
    (stands lines looked n k)

-- ---- the changed valuation

-- a row of the universe for row i of the set
pub record Partner (t : Tab) (m : ℕ) (v : ℕ → Value) (i : ℕ) (u : List Value) : Type 0 where
  pub wide : length u ≡ t.width
  pub agrees : AgreesOn t m v i u

module _ (t : Tab) (m : ℕ) (v : ℕ → Value) (us : ℕ → List Value) (agrees : (i : ℕ) → i < length t.rows → bit_at m i ≡ 1 → AgreesOn t m v i (us i)) where
  rows_of : ℕ → List Sym
  rows_of i = get_or t.rows i []

  -- what stands where the variable stands, or what it had
  read_at : (k : ℕ) → Stands (λ i. get_or t.rows i []) (bit_at m) (length t.rows) k ⊎ (Stands (λ i. get_or t.rows i []) (bit_at m) (length t.rows) k → ⊥) → Value
  read_at k (inl o) = get_or (us o.line) o.column (v k)
  read_at k (inr none) = v k

  stands_holds : (k : ℕ) (o : Stands (λ i. get_or t.rows i []) (bit_at m) (length t.rows) k) → HasSymbol t m o.line o.column (Var k)
  stands_holds k o = record { row_in = o.line_in; in_set = o.is_looked; cell = record { below = o.below; is = o.is } }

  -- wherever the variable stands, the same is read
  read_same : (i c k : ℕ) → HasSymbol t m i c (Var k) → (d : Stands (λ i. get_or t.rows i []) (bit_at m) (length t.rows) k ⊎ (Stands (λ i. get_or t.rows i []) (bit_at m) (length t.rows) k → ⊥)) → read_at k d ≡ get_or (us i) c (v k)
  unfolding read_at
  read_same i c k h (inr none) = absurd (none (record { line = i; line_in = h.row_in; is_looked = h.in_set; column = c; below = h.cell.below; is = h.cell.is }))
  read_same i c k h (inl o) =
      let there = stands_holds k o in
      let apart : (o.line ≡ i → o.column ≢ c) → get_or (us o.line) o.column (v k) ≡ get_or (us i) c (v k) = λ ne.
      agrees o.line o.line_in o.is_looked o.column (Var k) there (twice k there (record { row = i; column = c; holds = h; other = λ e f. ne (sym e) (sym f) })) (v k)
      ∙ sym (agrees i h.row_in h.in_set c (Var k) h (twice k h (record { row = o.line; column = o.column; holds = there; other = ne })) (v k)) in
      ⊎_elim
      (λ (e : o.line ≡ i).
      ⊎_elim
      (λ (f : o.column ≡ c). ap (λ i. get_or (us i) o.column (v k)) e ∙ ap (λ c. get_or (us i) c (v k)) f)
      (λ (f : o.column ≢ c). apart (λ e. f))
      (cases_eq o.column c))
      (λ (e : o.line ≢ i). apart (λ f. absurd (e f)))
      (cases_eq o.line i)

  changed : ℕ → Value
  changed k = read_at k (stands (λ i. get_or t.rows i []) (bit_at m) (length t.rows) k)

  changed_cell : (i c : ℕ) (x : Sym) → HasSymbol t m i c x → (d : Value) → c < length (us i) → value_of changed x ≡ get_or (us i) c d
  unfolding changed
  changed_cell i c (Const y) h d low = sym (agrees i h.row_in h.in_set c (Const y) h (constant y h) d)
  changed_cell i c (Var k) h d low = read_same i c k h (stands (λ i. get_or t.rows i []) (bit_at m) (length t.rows) k) ∙ get_or_default (us i) c (v k) d low

  changed_row : (i : ℕ) → i < length t.rows → bit_at m i ≡ 1 → length (get_or t.rows i []) ≡ length (us i) → values_of changed (get_or t.rows i []) ≡ us i
  changed_row i h set len =
      let row = get_or t.rows i [] in
      let l = length-map row (value_of changed) in
      same_lists (values_of changed row) (us i) (l ∙ len) (λ c d low.
      let low_row : c < length row = omega arith in
      let x = get_or row c (Var 0) in
      let holds : HasSymbol t m i c x = record { row_in = h; in_set = set; cell = record { below = low_row; is = λ e. get_or_default row c e (Var 0) low_row } } in
      get_or-map (value_of changed) row c (Var 0) d low_row ∙ changed_cell i c x holds d (omega arith))

  changed_head : IsValid (part t m) → (c : ℕ) (d : Value) → c < length t.head → get_or (values_of changed t.head) c d ≡ get_or (values_of v t.head) c d
  unfolding changed
  changed_head valid c d low =
      let x = get_or t.head c (Var 0) in
      let same : (x : Sym) → get_or t.head c x ≡ x → value_of changed x ≡ value_of v x =
      elim [
        | Const y ↦ λ e. refl
        | Var k ↦ λ e.
            let has : Contains t.head (Var k) = (c, low, e) in
            let at = valid.head_occurs k has in
            let row = get_or (select m t.rows) at.0 [] in
            let r = select-from m t.rows row (at.0, at.1, get_or_default (select m t.rows) at.0 row [] at.1) in
            let cell = at.2 in
            let is : get_or t.rows r.place [] ≡ row = r.is [] in
            let holds : HasSymbol t m r.place cell.0 (Var k) = record {
              row_in = r.below;
              in_set = r.is_in;
              cell = record { below = subst (λ row. cell.0 < length row) (sym is) cell.1; is = λ d. ap (λ row. get_or row cell.0 d) is ∙ get_or_default row cell.0 d (Var k) cell.1 ∙ cell.2 };
            } in
            read_same r.place cell.0 k holds (stands (λ i. get_or t.rows i []) (bit_at m) (length t.rows) k) ∙ agrees r.place r.below r.is_in cell.0 (Var k) holds (in_head k holds has) (v k)
      ] in
      get_or-map (value_of changed) t.head c (Var 0) d low ∙ same x (get_or_default t.head c x (Var 0) low) ∙ sym (get_or-map (value_of v) t.head c (Var 0) d low)

abbrev chosen : (t : Tab) (m : ℕ) (universe : List (List Value)) (v : ℕ → Value) → AgreeByEssential t m universe v → (i : ℕ) → (i < length t.rows) ⊎ (length t.rows ≤ i) → (bit_at m i ≡ 1) ⊎ (bit_at m i ≢ 1) → List Value
chosen t m universe v choice i (inl lt) (inl one) = (choice i lt one).0
chosen t m universe v choice i (inl lt) (inr other) = []
chosen t m universe v choice i (inr le) b = []

chosen_good : (t : Tab) (m : ℕ) (universe : List (List Value)) (v : ℕ → Value) (choice : AgreeByEssential t m universe v) (i : ℕ) (a : (i < length t.rows) ⊎ (length t.rows ≤ i)) (b : (bit_at m i ≡ 1) ⊎ (bit_at m i ≢ 1)) → i < length t.rows → bit_at m i ≡ 1 → Contains universe (chosen t m universe v choice i a b) × AgreesOn t m v i (chosen t m universe v choice i a b)
chosen_good t m universe v choice i (inl lt) (inl one) h s = ((choice i lt one).1, (choice i lt one).2)
chosen_good t m universe v choice i (inl lt) (inr other) h s = absurd (other s)
chosen_good t m universe v choice i (inr le) b h s = absurd (omega arith)

pub essential_ext : (t : Tab) (m : ℕ) (universe : List (List Value)) (h : List Value) → IsValid (part t m) → All (λ row. length row ≡ t.width) t.rows → All (λ u. length u ≡ t.width) universe → ExtByEssential t m universe h → Ext (part t m) universe h
essential_ext t m universe h valid widths wide s =
    let v = s.valuation in
    let us = λ (i : ℕ). chosen t m universe v s.holds i (cases_lt i (length t.rows)) (cases_eq (bit_at m i) 1) in
    let good = λ (i : ℕ) (l : i < length t.rows) (b : bit_at m i ≡ 1). chosen_good t m universe v s.holds i (cases_lt i (length t.rows)) (cases_eq (bit_at m i) 1) l b in
    let agrees = λ (i : ℕ) (l : i < length t.rows) (b : bit_at m i ≡ 1). (good i l b).1 in
    let w = changed t m v us agrees in
    record {
      valuation = w;
      holds = λ q d l.
          let row = get_or (select m t.rows) q d in
          let r = select-from m t.rows row (q, l, get_or_default (select m t.rows) q row d l) in
          let i = r.place in
          let has = (good i r.below r.is_in).0 in
          let u_wide : length (us i) ≡ t.width = let x = wide has.0 (us i) has.1 in ap length (sym has.2) ∙ x in
          let e = changed_row t m v us agrees i r.below r.is_in (widths i [] r.below ∙ sym u_wide) in
          subst (Contains universe) (sym e ∙ ap (values_of w) (r.is [])) has;
      gives =
          same_lists (values_of w t.head) (values_of v t.head) (length-map t.head (value_of w) ∙ sym (length-map t.head (value_of v)))
          (λ c d low. changed_head t m v us agrees valid c d (let l = length-map t.head (value_of w) in omega arith))
          ∙ s.gives;
    }

pub ext_essential : (t : Tab) (m : ℕ) (universe : List (List Value)) (h : List Value) → Ext (part t m) universe h → ExtByEssential t m universe h
ext_essential t m universe h e = record {
  valuation = e.valuation;
  holds = λ i low set.
      let row = get_or t.rows i [] in
      let has = All-contains (λ row. Contains universe (values_of e.valuation row)) (select m t.rows) row e.holds (select-has m t.rows i [] low set) in (
        values_of e.valuation row,
        has,
        λ c x holds essential d. get_or-map (value_of e.valuation) row c (Var 0) d holds.cell.below ∙ ap (value_of e.valuation) (holds.cell.is (Var 0)),
      );
  gives = e.gives;
}
