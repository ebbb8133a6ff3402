-- Reading rows cell by cell.
use Rattle.std.proofs.Common.{◌≡◌, ℕ, pos, ◌+◌, ◌<◌, ◌≤◌, ◌↔◌, Bool, IsTrue, List, length, get_or, slice_get, Some, Contains, sym, ap, ◌∙◌, arith, below_more}
use Rattle.std.proofs.lemmas.List.{length-map, get_or-map, get_or_default, same_lists}
use Rattle.std.proofs.lemmas.Option.{get_or_from_slice_get}
use Rattle.su_base.specs.declared.values.Value.{Value}
use Rattle.su_base.specs.declared.values.Value.TheVariants.{Int}
use Rattle.su_base.specs.contracts.values.ValuePartialEq.TheImpl.{ghosts}
use Rattle.su_tableau.specs.declared.symbols.Sym.{Sym}
use Rattle.su_tableau.specs.declared.symbols.Sym.TheVariants.{Var}
use Rattle.su_tableau.specs.Tableaux.{Tab, AreBelow, AreVarsBelow, IsSymbolCount}
use Rattle.su_tableau.specs.Valuations.{nth, value_of, values_of}
use Rattle.su_tableau.proofs.Same.{value_same}

-- what a read at the place gives is what the row contains
pub contains_read : (row : List Sym) (c : ℕ) (x y : Sym) → c < length row → x ≡ get_or row c x → x ≡ y → Contains row y
contains_read row c x y h is e = (c, h, get_or_default row c y x h ∙ sym is ∙ e)

pub var_read : (row : List Sym) (c j k : ℕ) (x : Sym) → c < length row → x ≡ get_or row c x → x ≡ Var j → get_or row c (Var k) ≡ Var k → j ≡ k
var_read row c j k x h is e f =
    let both : Var j ≡ Var k = sym e ∙ is ∙ get_or_default row c x (Var k) h ∙ f in
    cc

pub above_more : (row : List Sym) (n top new : ℕ) → top ≤ new → ((k i : ℕ) → i < n → get_or row i (Var k) ≡ Var k → k < top) → ((k : ℕ) → get_or row n (Var k) ≡ Var k → k < new) → (k i : ℕ) → i < n + 1 → get_or row i (Var k) ≡ Var k → k < new
above_more row n top new up before here k =
    below_more (λ i. get_or row i (Var k) ≡ Var k → k < new) n (λ i h e. let l = before k i h e in omega arith) (here k)

pub below_up : (row : List Sym) (m n : ℕ) → m ≤ n → AreBelow m row → AreBelow n row
below_up row m n h below k c = let l = below k c in omega arith

-- ---- values

pub has_var_value : (values : List Value) (x : Sym) (k : ℕ) (v w : Value) (r : Bool) → x ≡ Var k → slice_get values k ≡ Some v → r ≡ ghosts.eq v w → IsTrue r ↔ (value_of (nth values) x ≡ w)
has_var_value values x k v w r is at e =
    let there : value_of (nth values) x ≡ v = ap (value_of (nth values)) is ∙ get_or_from_slice_get values k v (Int (pos 0)) at in
    let s = value_same v w in
    (λ yes. there ∙ s.0 (sym e ∙ yes), λ same. e ∙ s.1 (sym there ∙ same))

pub values_more : (v : ℕ → Value) (xs : List Sym) (ys : List Value) (n : ℕ) (x : Sym) (y : Value) → length xs ≡ length ys → ((i : ℕ) (d : Sym) (e : Value) → i < n → value_of v (get_or xs i d) ≡ get_or ys i e) → n < length xs → x ≡ get_or xs n x → y ≡ get_or ys n y → value_of v x ≡ y → (i : ℕ) (d : Sym) (e : Value) → i < n + 1 → value_of v (get_or xs i d) ≡ get_or ys i e
values_more v xs ys n x y len before low is_x is_y same i d e =
    below_more (λ i. value_of v (get_or xs i d) ≡ get_or ys i e) n (λ i h. before i d e h)
    (ap (value_of v) (get_or_default xs n d x low ∙ sym is_x) ∙ same ∙ is_y ∙ get_or_default ys n y e (omega arith)) i

pub values_all : (v : ℕ → Value) (xs : List Sym) (ys : List Value) (n : ℕ) → length xs ≤ n → length xs ≡ length ys → ((i : ℕ) (d : Sym) (e : Value) → i < n → value_of v (get_or xs i d) ≡ get_or ys i e) → values_of v xs ≡ ys
values_all v xs ys n all len f =
    let l = length-map xs (value_of v) in
    same_lists (values_of v xs) ys (l ∙ len) (λ k e h. let h' : k < length xs = omega arith in get_or-map (value_of v) xs k (Var 0) e h' ∙ f k (Var 0) e (omega arith))

pub values_at : (v : ℕ → Value) (xs : List Sym) (ys : List Value) (n : ℕ) (x : Sym) (y : Value) → values_of v xs ≡ ys → n < length xs → x ≡ get_or xs n x → y ≡ get_or ys n y → value_of v x ≡ y
values_at v xs ys n x y e low is_x is_y = ap (value_of v) is_x ∙ sym (get_or-map (value_of v) xs n x y low) ∙ ap (λ l. get_or l n y) e ∙ sym is_y

pub vars_up : (t : Tab) (n m : ℕ) → IsSymbolCount n t → n ≤ m → AreVarsBelow m t
vars_up t n m count h = record {
  head = below_up t.head n m h count.below.head;
  rows = λ i d l. below_up (get_or t.rows i d) n m h (count.below.rows i d l);
}
