-- Cells of rows, and when a row goes to a target by itself.
use Rattle.std.proofs.Common.{◌≡◌, ℕ, zero, suc, ◌<◌, ◌≤◌, ◌⊎◌, ◌↔◌, List, [], ◌∷◌, length, get_or, Contains, Option, Some, None, inl, inr, ⊎_elim, refl, sym, ap, subst, ◌∙◌, arith}
use Rattle.std.proofs.lemmas.Bool.{cases_lt}
use Rattle.std.proofs.lemmas.List.{get_or_default}
use Rattle.su_base.specs.declared.values.Value.{Value}
use Rattle.su_tableau.specs.declared.symbols.Sym.{Sym}
use Rattle.su_tableau.specs.declared.symbols.Sym.TheVariants.{Const, Var}
use Rattle.su_tableau.specs.Tableaux.{Tab}
use Rattle.su_map.specs.Lists.{row_of}
use Rattle.su_tableau.specs.Parts.{Cell}
use Rattle.su_map.specs.Candidates.{KeepsConstants, MapAlike}
use Rattle.su_map.specs.inside.Targets.{IsFirstAt, CellFits, IsPlain, AreShared}
use Rattle.su_tableau.proofs.ChangedValuations.{is_var}

pub cell_from : (row : List Sym) (c : ℕ) (d x : Sym) → c < length row → get_or row c d ≡ x → Cell row c x
cell_from row c d x h e = record { below = h; is = λ d'. get_or_default row c d' d h ∙ e }

-- from what a read of the row gives
pub cell_read : (row : List Sym) (c : ℕ) (x y : Sym) → c < length row → x ≡ get_or row c x → x ≡ y → Cell row c y
cell_read row c x y h is e = cell_from row c x y h (sym is ∙ e)

pub cell_contains : (row : List Sym) (c : ℕ) (x : Sym) → Cell row c x → Contains row x
cell_contains row c x cell = (c, cell.below, cell.is x)

pub contains_cell : (row : List Sym) (x : Sym) (h : Contains row x) → Cell row h.0 x
contains_cell row x h = cell_from row h.0 x x h.1 h.2

pub same_var : (row : List Sym) (c j k : ℕ) → Cell row c (Var j) → Cell row c (Var k) → j ≡ k
same_var row c j k a b = let e : Var j ≡ Var k = sym (a.is (Var j)) ∙ b.is (Var j) in cc

pub const_var : (row : List Sym) (c k : ℕ) (v : Value) → Cell row c (Const v) → Cell row c (Var k) → ⊥
const_var row c k v a b = let e : Const v ≡ Var k = sym (a.is (Var k)) ∙ b.is (Var k) in cc

pub same_const : (row : List Sym) (c : ℕ) (v w : Value) → Cell row c (Const v) → Cell row c (Const w) → Const v ≡ Const w
same_const row c v w a b = sym (a.is (Const v)) ∙ b.is (Const v)

-- what a row that was read holds at a column
pub read_holds : (t : Tab) (j column : ℕ) (r : List Sym) (y : Sym) → r ≡ row_of t j → column < length r → y ≡ get_or r column y → (d : Sym) → get_or (row_of t j) column d ≡ y
read_holds t j column r y e h is d = ap (λ r. get_or r column d) (sym e) ∙ get_or_default r column d y h ∙ sym is

-- ---- the first place of a variable

first_later : (x : Sym) (xs : List Sym) (k : ℕ) → (x ≡ Var k → ⊥) → (c : ℕ) → IsFirstAt xs c k → IsFirstAt (x ∷ xs) (suc c) k
first_later x xs k other c f = record {
  cell = record { below = let l = f.cell.below in omega arith; is = f.cell.is };
  first = elim [ zero ↦ λ l cell. other (cell.is (Var k)) | suc i ↦ λ l cell. f.first i (omega arith) (record { below = let b = cell.below in omega arith; is = cell.is }) ];
}

not_later : (x : Sym) (xs : List Sym) (k : ℕ) → (x ≡ Var k → ⊥) → (Contains xs (Var k) → ⊥) → (c : ℕ) → c < suc (length xs) → get_or (x ∷ xs) c (Var k) ≡ Var k → ⊥
not_later x xs k other none zero l e = other e
not_later x xs k other none (suc c) l e = none (c, omega arith, e)

pub first_in : (row : List Sym) (k : ℕ) → ((c : ℕ) × IsFirstAt row c k) ⊎ (Contains row (Var k) → ⊥)
first_in [] k = inr (λ h. absurd (let l = h.1 in omega arith))
first_in (x ∷ xs) k =
    ⊎_elim
    (λ (e : x ≡ Var k). inl (0, record { cell = record { below = omega arith; is = λ d. e }; first = λ c l. absurd (omega arith) }))
    (λ (other : x ≡ Var k → ⊥).
    ⊎_elim
    (λ (f : (c : ℕ) × IsFirstAt xs c k). inl (suc f.0, first_later x xs k other f.0 f.1))
    (λ (none : Contains xs (Var k) → ⊥). inr (λ h. not_later x xs k other none h.0 h.1 h.2))
    (first_in xs k))
    (is_var x k)

pub first_unique : (row : List Sym) (a b k : ℕ) → IsFirstAt row a k → IsFirstAt row b k → a ≡ b
first_unique row a b k f g =
    ⊎_elim
    (λ (lt : a < b). absurd (g.first a lt f.cell))
    (λ (le : b ≤ a).
    ⊎_elim
    (λ (lt : b < a). absurd (f.first b lt g.cell))
    (λ (le' : a ≤ b). let e : a ≡ b = omega arith in e)
    (cases_lt b a))
    (cases_lt a b)

-- ---- a cell that fits

pub const_fits : (head head' row target : List Sym) (c : ℕ) (x : Sym) (v : Value) → Cell row c (Const v) → x ≡ Const v → ((d : Sym) → get_or target c d ≡ x) ↔ CellFits head head' row target c
const_fits head head' row target c x v cell is = (
  λ h. record {
    constant = λ w d other. h d ∙ is ∙ same_const row c v w cell other;
    head_symbol = λ i k d first other. absurd (const_var row c k v cell other);
    alike = λ b k d first other none. absurd (const_var row c k v cell other);
  },
  λ f d. f.constant v d cell ∙ sym is,
)

pub head_fits : (head head' row target : List Sym) (c i k : ℕ) (x : Sym) → Cell row c (Var k) → IsFirstAt head i k → ((d : Sym) → get_or head' i d ≡ x) → ((d : Sym) → get_or target c d ≡ x) ↔ CellFits head head' row target c
head_fits head head' row target c i k x cell first is = (
  λ h. record {
    constant = λ w d other. absurd (const_var row c k w other cell);
    head_symbol = λ i' k' d first' other.
        let same : k' ≡ k = same_var row c k' k other cell in
        let place : i ≡ i' = first_unique head i i' k first (subst (IsFirstAt head i') same first') in
        ap (λ i. get_or head' i d) (sym place) ∙ is d ∙ sym (h d);
    alike = λ b k' d first' other none.
        let same : k ≡ k' = same_var row c k k' cell other in
        absurd (none (subst (λ k. Contains head (Var k)) same (cell_contains head i (Var k) first.cell)));
  },
  λ f d. sym (f.head_symbol i k d first cell) ∙ is d,
)

pub alike_fits : (head head' row target : List Sym) (c b k : ℕ) → Cell row c (Var k) → (Contains head (Var k) → ⊥) → IsFirstAt row b k → ((d : Sym) → get_or target b d ≡ get_or target c d) ↔ CellFits head head' row target c
alike_fits head head' row target c b k cell none first = (
  λ h. record {
    constant = λ w d other. absurd (const_var row c k w other cell);
    head_symbol = λ i k' d first' other.
        let same : k' ≡ k = same_var row c k' k other cell in
        absurd (none (subst (λ k. Contains head (Var k)) same (cell_contains head i (Var k') first'.cell)));
    alike = λ b' k' d first' other none'.
        let same : k' ≡ k = same_var row c k' k other cell in
        let place : b ≡ b' = first_unique row b b' k first (subst (IsFirstAt row b') same first') in
        ap (λ b. get_or target b d) (sym place) ∙ h d;
  },
  λ f d. f.alike b k d first cell none,
)

-- ---- a line that fits

pub record Fits (head head' row target : List Sym) : Type 0 where
  pub constants : KeepsConstants row target
  pub head_symbols : MapAlike head head' row target
  pub itself : MapAlike row target row target

pub cells_fit : (head head' row target : List Sym) → MapAlike head head' head head' → ((c : ℕ) → c < length row → CellFits head head' row target c) → Fits head head' row target
cells_fit head head' row target agrees f =
    let by_head : MapAlike head head' row target = λ c e k d at cell.
    ⊎_elim
    (λ (i : (i : ℕ) × IsFirstAt head i k). agrees c i.0 k d at i.1.cell ∙ (f e cell.below).head_symbol i.0 k d i.1 cell)
    (λ (none : Contains head (Var k) → ⊥). absurd (none (cell_contains head c (Var k) at)))
    (first_in head k) in
    record {
      constants = λ c v d cell. (f c cell.below).constant v d cell;
      head_symbols = by_head;
      itself = λ c e k d at cell.
          ⊎_elim
          (λ (i : (i : ℕ) × IsFirstAt head i k). sym (by_head i.0 c k d i.1.cell at) ∙ by_head i.0 e k d i.1.cell cell)
          (λ (none : Contains head (Var k) → ⊥).
          ⊎_elim
          (λ (b : (b : ℕ) × IsFirstAt row b k). sym ((f c at.below).alike b.0 k d b.1 at none) ∙ (f e cell.below).alike b.0 k d b.1 cell none)
          (λ (out : Contains row (Var k) → ⊥). absurd (out (cell_contains row c (Var k) at)))
          (first_in row k))
          (first_in head k);
    }

pub fits_cells : (head head' row target : List Sym) → Fits head head' row target → (c : ℕ) → CellFits head head' row target c
fits_cells head head' row target f c = record {
  constant = λ v d cell. f.constants c v d cell;
  head_symbol = λ i k d first cell. f.head_symbols i c k d first.cell cell;
  alike = λ b k d first cell none. f.itself b c k d first.cell cell;
}

pub no_head : (row target : List Sym) → MapAlike [] [] row target
no_head row target c e k d at cell = absurd (let l = at.below in omega arith)

pub no_head_itself : MapAlike [] [] [] []
no_head_itself c e k d at cell = absurd (let l = at.below in omega arith)

-- a clause on the members of a set, where one of its facts has another form
pub among_same : (n : ℕ) (A B C : ℕ → Type 0) (R : ℕ → Type 0) → ((j : ℕ) → R j ↔ ((j < n) × A j × B j)) → ((j : ℕ) → B j ↔ C j) → (j : ℕ) → R j ↔ ((j < n) × A j × C j)
among_same n A B C R f g j = (λ h. let r = (f j).0 h in (r.0, r.1, (g j).0 r.2), λ h. (f j).1 (h.0, h.1, (g j).1 h.2))

-- ---- columns shared

some_or_none : (o : Option ℕ) → ((a : ℕ) × (o ≡ Some a)) ⊎ (o ≡ None)
some_or_none None = inr refl
some_or_none (Some a) = inl (a, refl)

-- where a column of ys is told its variable's column in xs, and both lines fit, the targets that hold what is told are those that agree
pub told_agree : (head head' xs us ys vs : List Sym) (columns : List (Option ℕ)) (n : ℕ) → length ys ≡ n → AreShared head xs ys columns → Fits head head' xs us → Fits head head' ys vs → (((e c : ℕ) (d : Sym) → e < n → get_or columns e None ≡ Some c → get_or us c d ≡ get_or vs e d) ↔ MapAlike xs us ys vs)
told_agree head head' xs us ys vs columns n len shared f g = (
  λ told c e k d at cell.
      let low : e < n = let b = cell.below in omega arith in
      ⊎_elim
      (λ (o : (a : ℕ) × (get_or columns e None ≡ Some a)). f.itself c o.0 k d at (shared.some e o.0 k cell.below o.1 cell) ∙ told e o.0 d low o.1)
      (λ (none : get_or columns e None ≡ None).
      let has = shared.none e k none cell (cell_contains xs c (Var k) at) in
      let place = contains_cell head (Var k) has in
      sym (f.head_symbols has.0 c k d place at) ∙ g.head_symbols has.0 e k d place cell)
      (some_or_none (get_or columns e None)),
  λ agree e c d low is.
      let v = shared.is_var e c (omega arith) is in
      agree c e v.0 d (shared.some e c v.0 (omega arith) is v.1) v.1,
)

pub plain_from : (row : List Sym) (n : ℕ) → length row ≤ n → ((p : ℕ) → p < n → (e k : ℕ) → e < p → get_or row p (Var k) ≡ Var k → get_or row e (Var k) ≡ Var k → ⊥) → IsPlain row
plain_from row n all none c e k at other =
    let l = at.below in
    let m = other.below in
    ⊎_elim
    (λ (lt : e < c). absurd (none c (omega arith) e k lt (at.is (Var k)) (other.is (Var k))))
    (λ (ge : c ≤ e).
    ⊎_elim
    (λ (lt : c < e). absurd (none e (omega arith) c k lt (other.is (Var k)) (at.is (Var k))))
    (λ (ge' : e ≤ c). let same : c ≡ e = omega arith in same)
    (cases_lt c e))
    (cases_lt e c)

pub plain_first : (row : List Sym) (c k : ℕ) → IsPlain row → Cell row c (Var k) → IsFirstAt row c k
plain_first row c k plain cell = record { cell = cell; first = λ i l other. let e = plain i c k other cell in absurd (omega arith) }
