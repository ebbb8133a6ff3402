-- Where a variable stands, and which columns are essential.
use Rattle.std.proofs.Common.{◌≡◌, ◌≢◌, ℕ, ◌+◌, ◌<◌, ◌≤◌, ◌↔◌, IsTrue, List, [], length, get_or, Option, Some, None, All, Contains, sym, ◌∙◌, subst, ⊎_elim, arith}
use Rattle.std.specs.Int.{bit_at}
use Rattle.std.specs.Ordering.{nat_cmp}
use Rattle.std.specs.FinSet.{FinSet, contains, insert, members}
use Rattle.std.proofs.lemmas.Bool.{cases_eq, cases_lt}
use Rattle.std.proofs.lemmas.Bool.Decides.{nat_tests}
use Rattle.std.proofs.lemmas.List.{get_or_default}
use Rattle.su_tableau.specs.declared.symbols.Sym.{Sym}
use Rattle.su_tableau.specs.declared.symbols.Sym.TheVariants.{Const, Var}
use Rattle.su_tableau.specs.Tableaux.{Tab}
use Rattle.su_tableau.specs.Parts.{Cell}
use Rattle.su_tableau.specs.Essential.{HasSymbol, IsElsewhere, IsEssential, constant, in_head, twice}
use Rattle.su_tableau.specs.inside.Elsewhere.{StandsElsewhere}

-- row i holds the variable at another cell
pub elsewhere_found : (t : Tab) (m row column k i : ℕ) (r : List Sym) (but : Option ℕ) → r ≡ get_or t.rows i [] → i < length t.rows → bit_at m i ≡ 1 → ((c : ℕ) → (but ≡ Some c) ↔ ((i ≡ row) × (c ≡ column))) → StandsElsewhere r k but → IsElsewhere t m row column k
elsewhere_found t m row column k i r but is low set out s = record {
  row = i;
  column = s.column;
  holds = record {
    row_in = low;
    in_set = set;
    cell = subst (λ r. Cell r s.column (Var k)) is s.cell;
  };
  other = λ e f. s.other ((out s.column).1 (e, f));
}

-- it doesn't
pub elsewhere_none : (t : Tab) (m row column k i : ℕ) (r : List Sym) (but : Option ℕ) → r ≡ get_or t.rows i [] → ((c : ℕ) → (but ≡ Some c) ↔ ((i ≡ row) × (c ≡ column))) → (StandsElsewhere r k but → ⊥) → (c : ℕ) → HasSymbol t m i c (Var k) → (i ≡ row → c ≢ column) → ⊥
elsewhere_none t m row column k i r but is out none c h other =
    none (record {
      column = c;
      cell = subst (λ r. Cell r c (Var k)) (sym is) h.cell;
      other = λ e. let p = (out c).0 e in other p.0 p.1;
    })

pub contains_stands : (row : List Sym) (k : ℕ) → Contains row (Var k) → StandsElsewhere row k None
contains_stands row k c = record { column = c.0; cell = record { below = c.1; is = λ d. get_or_default row c.0 d (Var k) c.1 ∙ c.2 }; other = λ e. cc }

pub stands_contains : (row : List Sym) (k : ℕ) (but : Option ℕ) → StandsElsewhere row k but → Contains row (Var k)
stands_contains row k but s = (s.column, s.cell.below, s.cell.is (Var k))

pub cell_holds : (t : Tab) (m i c : ℕ) (x y : Sym) → All (λ row. length row ≡ t.width) t.rows → i < length t.rows → bit_at m i ≡ 1 → c < t.width → ((d : Sym) → get_or (get_or t.rows i []) c d ≡ x) → x ≡ y → HasSymbol t m i c y
cell_holds t m i c x y widths low set wide is e = record {
  row_in = low;
  in_set = set;
  cell = record { below = let w = widths i [] low in omega arith; is = λ d. is d ∙ e };
}

-- a cell of a variable that is in no head is essential only where the variable is elsewhere too
pub essential_else : (t : Tab) (m i c k : ℕ) → HasSymbol t m i c (Var k) → (Contains t.head (Var k) → ⊥) → IsEssential t m i c → IsElsewhere t m i c k
essential_else t m i c k h none (constant v h') = absurd (let e : Const v ≡ Var k = sym (h'.cell.is (Const v)) ∙ h.cell.is (Const v) in cc)
essential_else t m i c k h none (in_head j h' has) =
    let e : Var j ≡ Var k = sym (h'.cell.is (Var j)) ∙ h.cell.is (Var j) in
    let same : j ≡ k = cc in
    absurd (none (subst (λ j. Contains t.head (Var j)) same has))
essential_else t m i c k h none (twice j h' e) =
    let e' : Var j ≡ Var k = sym (h'.cell.is (Var j)) ∙ h.cell.is (Var j) in
    let same : j ≡ k = cc in
    subst (λ j. IsElsewhere t m i c j) same e

pub essential_in : (t : Tab) (m i c : ℕ) → IsEssential t m i c → c < length (get_or t.rows i [])
essential_in t m i c (constant v h) = h.cell.below
essential_in t m i c (in_head k h has) = h.cell.below
essential_in t m i c (twice k h e) = h.cell.below

-- ---- the set of the columns so far

pub set_more : (s : FinSet nat_cmp) (P : ℕ → Type 0) (c : ℕ) → P c → ((n : ℕ) → IsTrue (contains s n) ↔ ((n < c) × P n)) → (n : ℕ) → IsTrue (contains (insert s c) n) ↔ ((n < c + 1) × P n)
set_more s P c here before n =
    ⊎_elim
    (λ (e : n ≡ c). (λ yes. (omega arith, subst P (sym e) here), λ h. grind (arith, nat_tests, members, e)))
    (λ (ne : n ≢ c).
    let same : contains (insert s c) n ≡ contains s n = grind (arith, nat_tests, members, ne) in (
      λ yes. let b = (before n).0 (sym same ∙ yes) in let l = b.0 in (omega arith, b.1),
      λ h. same ∙ (before n).1 (let l = h.0 in omega arith, h.1),
    ))
    (cases_eq n c)

pub set_same : (s : FinSet nat_cmp) (P : ℕ → Type 0) (c : ℕ) → (P c → ⊥) → ((n : ℕ) → IsTrue (contains s n) ↔ ((n < c) × P n)) → (n : ℕ) → IsTrue (contains s n) ↔ ((n < c + 1) × P n)
set_same s P c none before n = (
  λ yes. let b = (before n).0 yes in let l = b.0 in (omega arith, b.1),
  λ h.
      let l = h.0 in
      ⊎_elim
      (λ (lt : n < c). (before n).1 (lt, h.1))
      (λ (le : c ≤ n). let e : n ≡ c = omega arith in absurd (none (subst P e h.1)))
      (cases_lt n c),
)
