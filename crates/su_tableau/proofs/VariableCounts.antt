-- How often each variable was met, cell by cell and row by row, and what that says of essential columns.
use Rattle.std.proofs.Common.{◌≡◌, ◌≢◌, ℕ, ◌+◌, ◌<◌, ◌≤◌, ◌↔◌, ◌⊎◌, inl, inr, List, [], length, get_or, Contains, refl, sym, ap, ◌∙◌, subst, ⊎_elim, arith}
use Rattle.std.specs.Int.{bit_at}
use Rattle.std.proofs.lemmas.Bool.{cases_eq, cases_lt}
use Rattle.std.proofs.lemmas.List.{get_or_default}
use Rattle.su_tableau.specs.declared.symbols.Sym.{Sym}
use Rattle.su_tableau.specs.declared.symbols.Sym.TheVariants.{Const, Var}
use Rattle.su_tableau.specs.declared.occurrences.Times.{Times}
use Rattle.su_tableau.specs.declared.occurrences.Times.TheVariants.{Never, Once, Again}
use Rattle.su_tableau.specs.Tableaux.{Tab}
use Rattle.su_tableau.specs.Essential.{HasSymbol, IsElsewhere, IsEssential, constant, in_head, twice}
use Rattle.su_tableau.specs.inside.Occurrences.{more, times_of, IsTwice, IsCount, CellHolds, IsBefore, AreCounted, AreTold, IsNotedAt, a_constant, a_variable}
use Rattle.su_tableau.proofs.SymbolParts.{const_var}

pub count_same : (H G : ℕ → ℕ → Type 0) → ((r c : ℕ) → H r c → G r c) → ((r c : ℕ) → G r c → H r c) → (x : Times) → IsCount H x → IsCount G x
count_same H G to from Never n = λ r c g. n r c (from r c g)
count_same H G to from Once o = record { row = o.row; column = o.column; one = to o.row o.column o.one; only = λ r c g. o.only r c (from r c g) }
count_same H G to from Again w = record {
  row = w.row;
  column = w.column;
  other_row = w.other_row;
  other_column = w.other_column;
  one = to w.row w.column w.one;
  other = to w.other_row w.other_column w.other;
  apart = w.apart;
}

-- one cell more
pub count_more : (H G : ℕ → ℕ → Type 0) (i j : ℕ) → (H i j → ⊥) → G i j → ((r c : ℕ) → H r c → G r c) → ((r c : ℕ) → G r c → H r c ⊎ ((r ≡ i) × (c ≡ j))) → (x : Times) → IsCount H x → IsCount G (more x)
count_more H G i j none here to split Never n = record { row = i; column = j; one = here; only = λ r c g. ⊎_elim (λ (h : H r c). absurd (n r c h)) (λ (e : (r ≡ i) × (c ≡ j)). e) (split r c g) }
count_more H G i j none here to split Once o = record {
  row = o.row;
  column = o.column;
  other_row = i;
  other_column = j;
  one = to o.row o.column o.one;
  other = here;
  apart = λ e f. none (subst (λ r. H r j) e (subst (λ c. H o.row c) f o.one));
}
count_more H G i j none here to split Again w = record {
  row = w.row;
  column = w.column;
  other_row = w.other_row;
  other_column = w.other_column;
  one = to w.row w.column w.one;
  other = to w.other_row w.other_column w.other;
  apart = w.apart;
}

-- ---- cells in order

before_more : (i j r c : ℕ) → IsBefore i j r c → IsBefore i (j + 1) r c
before_more i j r c (inl l) = inl l
before_more i j r c (inr e) = let l = e.1 in inr (e.0, omega arith)

before_less : (i j r c : ℕ) → IsBefore i (j + 1) r c → IsBefore i j r c ⊎ ((r ≡ i) × (c ≡ j))
before_less i j r c (inl l) = inl (inl l)
before_less i j r c (inr e) =
    let l = e.1 in
    ⊎_elim (λ (lt : c < j). inl (inr (e.0, lt))) (λ (le : j ≤ c). inr (e.0, omega arith)) (cases_lt c j)

not_before : (i j : ℕ) → IsBefore i j i j → ⊥
not_before i j (inl l) = absurd (omega arith)
not_before i j (inr e) = let l = e.1 in absurd (omega arith)

one_symbol : (t : Tab) (m i j : ℕ) (x y : Sym) → HasSymbol t m i j x → HasSymbol t m i j y → x ≡ y
one_symbol t m i j x y h g = sym (h.cell.is x) ∙ g.cell.is x

moved : (t : Tab) (m r c i j : ℕ) (x : Sym) → r ≡ i → c ≡ j → HasSymbol t m r c x → HasSymbol t m i j x
moved t m r c i j x e f h = subst (λ r. HasSymbol t m r j x) e (subst (λ c. HasSymbol t m r c x) f h)

-- the cell's variable was met once more
pub cell_met : (t : Tab) (m i j k : ℕ) (x : Times) → HasSymbol t m i j (Var k) → IsCount (λ r c. IsBefore i j r c × CellHolds t m k r c) x → IsCount (λ r c. IsBefore i (j + 1) r c × CellHolds t m k r c) (more x)
cell_met t m i j k x h =
    count_more (λ r c. IsBefore i j r c × CellHolds t m k r c) (λ r c. IsBefore i (j + 1) r c × CellHolds t m k r c) i j (λ b. not_before i j b.0) (inr (refl, omega arith), h) (λ r c b. (before_more i j r c b.0, b.1))
    (λ r c b. ⊎_elim (λ (l : IsBefore i j r c). inl (l, b.1)) (λ (e : (r ≡ i) × (c ≡ j)). inr e) (before_less i j r c b.0)) x

-- the other variables weren't
pub cell_passed : (t : Tab) (m i j k : ℕ) (y : Sym) (x : Times) → HasSymbol t m i j y → y ≢ Var k → IsCount (λ r c. IsBefore i j r c × CellHolds t m k r c) x → IsCount (λ r c. IsBefore i (j + 1) r c × CellHolds t m k r c) x
cell_passed t m i j k y x h ne =
    count_same (λ r c. IsBefore i j r c × CellHolds t m k r c) (λ r c. IsBefore i (j + 1) r c × CellHolds t m k r c) (λ r c b. (before_more i j r c b.0, b.1))
    (λ r c b. ⊎_elim (λ (l : IsBefore i j r c). (l, b.1)) (λ (e : (r ≡ i) × (c ≡ j)). absurd (ne (one_symbol t m i j y (Var k) h (moved t m r c i j (Var k) e.0 e.1 b.1)))) (before_less i j r c b.0)) x

cell_at : (t : Tab) (m i j k : ℕ) (old new : List Times) (x : Sym) → HasSymbol t m i j x → (x ≡ Var k → times_of new k ≡ more (times_of old k)) → (x ≢ Var k → times_of new k ≡ times_of old k)
    → IsCount (λ r c. IsBefore i j r c × CellHolds t m k r c) (times_of old k) → IsCount (λ r c. IsBefore i (j + 1) r c × CellHolds t m k r c) (times_of new k)
cell_at t m i j k old new (Const v) h met others count =
    subst (IsCount (λ r c. IsBefore i (j + 1) r c × CellHolds t m k r c)) (sym (others (const_var v k))) (cell_passed t m i j k (Const v) (times_of old k) h (const_var v k) count)
cell_at t m i j k old new (Var n) h met others count =
    ⊎_elim
    (λ (e : n ≡ k).
    let here = subst (λ n. HasSymbol t m i j (Var n)) e h in
    subst (IsCount (λ r c. IsBefore i (j + 1) r c × CellHolds t m k r c)) (sym (met (ap Var e))) (cell_met t m i j k (times_of old k) here count))
    (λ (ne : n ≢ k).
    let ne' : Var n ≢ Var k = λ e. ne cc in
    subst (IsCount (λ r c. IsBefore i (j + 1) r c × CellHolds t m k r c)) (sym (others ne')) (cell_passed t m i j k (Var n) (times_of old k) h ne' count))
    (cases_eq n k)

pub cell_counted : (t : Tab) (m i j : ℕ) (old new : List Times) (x : Sym) → HasSymbol t m i j x → ((k : ℕ) → x ≡ Var k → times_of new k ≡ more (times_of old k)) → ((k : ℕ) → x ≢ Var k → times_of new k ≡ times_of old k)
    → AreCounted t m i j old → AreCounted t m i (j + 1) new
cell_counted t m i j old new x h met others count = λ k. cell_at t m i j k old new x h (met k) (others k) (count k)

-- ---- rows in order

pub row_counted : (t : Tab) (m i n : ℕ) (times : List Times) → n ≡ length (get_or t.rows i []) → AreCounted t m i n times → AreCounted t m (i + 1) 0 times
row_counted t m i n times wide count = λ k.
    count_same (λ r c. IsBefore i n r c × CellHolds t m k r c) (λ r c. IsBefore (i + 1) 0 r c × CellHolds t m k r c)
    (λ r c b. (elim b.0 [ inl l ↦ inl (omega arith) | inr e ↦ let f = e.0 in inl (omega arith) ], b.1))
    (λ r c b. (
      elim b.0 [
        | inl l ↦ ⊎_elim (λ (lt : r < i). inl lt) (λ (le : i ≤ r). let e : r ≡ i = omega arith in let w = subst (λ r. c < length (get_or t.rows r [])) e b.1.cell.below in inr (e, omega arith)) (cases_lt r i)
        | inr e ↦ let l = e.1 in absurd (omega arith)
      ],
      b.1,
    ))
    (times_of times k) (count k)

pub row_skipped : (t : Tab) (m i : ℕ) (times : List Times) → (bit_at m i ≡ 1 → ⊥) → AreCounted t m i 0 times → AreCounted t m (i + 1) 0 times
row_skipped t m i times out count = λ k.
    count_same (λ r c. IsBefore i 0 r c × CellHolds t m k r c) (λ r c. IsBefore (i + 1) 0 r c × CellHolds t m k r c)
    (λ r c b. (elim b.0 [ inl l ↦ inl (omega arith) | inr e ↦ let f = e.0 in inl (omega arith) ], b.1))
    (λ r c b. (
      elim b.0 [
        | inl l ↦ ⊎_elim (λ (lt : r < i). inl lt) (λ (le : i ≤ r). let e : r ≡ i = omega arith in absurd (out (subst (λ r. bit_at m r ≡ 1) e b.1.in_set))) (cases_lt r i)
        | inr e ↦ let l = e.1 in absurd (omega arith)
      ],
      b.1,
    ))
    (times_of times k) (count k)

pub none_counted : (t : Tab) (m : ℕ) (times : List Times) → ((k : ℕ) → times_of times k ≡ Never) → AreCounted t m 0 0 times
none_counted t m times never = λ k. subst (IsCount (λ r c. IsBefore 0 0 r c × CellHolds t m k r c)) (sym (never k)) (λ r c b. elim b.0 [ inl l ↦ absurd (omega arith) | inr e ↦ let l = e.1 in absurd (omega arith) ])

again_twice : (H : ℕ → ℕ → Type 0) (x : Times) → IsCount H x → (x ≡ Again) ↔ IsTwice H
again_twice H Never n = (λ e. absurd cc, λ w. absurd (n w.row w.column w.one))
again_twice H Once o = (λ e. absurd cc, λ w. let a = o.only w.row w.column w.one in let b = o.only w.other_row w.other_column w.other in absurd (w.apart (a.0 ∙ sym b.0) (a.1 ∙ sym b.1)))
again_twice H Again w = (λ e. w, λ u. refl)

pub all_counted : (t : Tab) (m n : ℕ) (times : List Times) → n ≡ length t.rows → AreCounted t m n 0 times → (k : ℕ) → (times_of times k ≡ Again) ↔ IsTwice (CellHolds t m k)
all_counted t m n times all count k =
    again_twice (CellHolds t m k) (times_of times k)
    (count_same (λ r c. IsBefore n 0 r c × CellHolds t m k r c) (CellHolds t m k) (λ r c b. b.1) (λ r c h. (let l = h.row_in in inl (omega arith), h)) (times_of times k) (count k))

-- ---- essential columns

elsewhere_of : (t : Tab) (m i c k : ℕ) → IsTwice (CellHolds t m k) → IsElsewhere t m i c k
elsewhere_of t m i c k w =
    ⊎_elim
    (λ (e : w.row ≡ i).
    ⊎_elim
    (λ (f : w.column ≡ c). record { row = w.other_row; column = w.other_column; holds = w.other; other = λ a b. w.apart (e ∙ sym a) (f ∙ sym b) })
    (λ (ne : w.column ≢ c). record { row = w.row; column = w.column; holds = w.one; other = λ a b. ne b })
    (cases_eq w.column c))
    (λ (ne : w.row ≢ i). record { row = w.row; column = w.column; holds = w.one; other = λ a. absurd (ne a) })
    (cases_eq w.row i)

noted_essential : (t : Tab) (m i c : ℕ) (times : List Times) (x : Sym) → AreTold t m times → HasSymbol t m i c x → IsNotedAt times x → IsEssential t m i c
noted_essential t m i c times x told h (a_constant v e) = constant v (subst (HasSymbol t m i c) e h)
noted_essential t m i c times x told h (a_variable k e again) =
    let here = subst (HasSymbol t m i c) e h in
    ⊎_elim (λ (has : Contains t.head (Var k)). in_head k here has) (λ (w : IsTwice (CellHolds t m k)). twice k here (elsewhere_of t m i c k w)) ((told k).0 again)

essential_noted : (t : Tab) (m i c : ℕ) (times : List Times) (x : Sym) → AreTold t m times → HasSymbol t m i c x → IsEssential t m i c → IsNotedAt times x
essential_noted t m i c times x told h (constant v g) = a_constant v (one_symbol t m i c x (Const v) h g)
essential_noted t m i c times x told h (in_head k g has) = a_variable k (one_symbol t m i c x (Var k) h g) ((told k).1 (inl has))
essential_noted t m i c times x told h (twice k g e) =
    a_variable k (one_symbol t m i c x (Var k) h g) ((told k).1 (inr (record { row = i; column = c; other_row = e.row; other_column = e.column; one = g; other = e.holds; apart = λ a b. e.other (sym a) (sym b) })))

pub noted_is : (t : Tab) (m i c : ℕ) (times : List Times) (x : Sym) → AreTold t m times → HasSymbol t m i c x → IsNotedAt times x ↔ IsEssential t m i c
noted_is t m i c times x told h = (noted_essential t m i c times x told h, essential_noted t m i c times x told h)

pub noted_again : (times : List Times) (x : Sym) (k : ℕ) → x ≡ Var k → IsNotedAt times x → times_of times k ≡ Again
noted_again times x k e (a_constant v f) = absurd (const_var v k (sym f ∙ e))
noted_again times x k e (a_variable n f again) =
    let both : Var n ≡ Var k = sym f ∙ e in
    let same : n ≡ k = cc in
    subst (λ n. times_of times n ≡ Again) same again

-- the cell that is read holds the symbol
pub cell_read : (t : Tab) (m i c : ℕ) (row : List Sym) (x : Sym) → i < length t.rows → bit_at m i ≡ 1 → row ≡ get_or t.rows i [] → c < length row → x ≡ get_or row c x → HasSymbol t m i c x
cell_read t m i c row x low set is below read = record {
  row_in = low;
  in_set = set;
  cell = record { below = subst (λ r. c < length r) is below; is = λ d. ap (λ r. get_or r c d) (sym is) ∙ get_or_default row c d x below ∙ sym read };
}
