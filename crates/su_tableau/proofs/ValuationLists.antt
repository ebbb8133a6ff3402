-- A valuation may be a list: only the values of the tableau's variables matter.
use Rattle.std.proofs.Common.{◌≡◌, ℕ, zero, suc, ◌+◌, ◌<◌, ◌≤◌, List, [], ◌∷◌, ◌++◌, length, get_or, pos, Contains, refl, sym, ap, ◌∙◌, subst, ⊎_elim, arith}
use Rattle.std.proofs.lemmas.Bool.{cases_lt}
use Rattle.std.proofs.lemmas.List.{length_push, get_or_push, get_or_append_left}
use Rattle.su_base.specs.declared.values.Value.{Value}
use Rattle.su_base.specs.declared.values.Value.TheVariants.{Int}
use Rattle.su_base.proofs.Items.{Contains-later}
use Rattle.su_tableau.specs.declared.symbols.Sym.{Sym}
use Rattle.su_tableau.specs.declared.symbols.Sym.TheVariants.{Const, Var}
use Rattle.su_tableau.specs.Tableaux.{Tab, AreBelow, AreVarsBelow}
use Rattle.su_tableau.specs.Valuations.{nth, values_of, Sends, Ext}

-- the values of the first n variables
firsts : (ℕ → Value) → ℕ → List Value
firsts v zero = []
firsts v (suc n) = firsts v n ++ v n ∷ []

length-firsts : (v : ℕ → Value) (n : ℕ) → length (firsts v n) ≡ n
unfolding firsts
length-firsts v zero = refl
length-firsts v (suc n) = let e = length_push (firsts v n) (v n) in let i = length-firsts v n in omega arith

firsts-at : (v : ℕ → Value) (n k : ℕ) (d : Value) → k < n → get_or (firsts v n) k d ≡ v k
unfolding firsts
firsts-at v zero k d h = absurd (omega arith)
firsts-at v (suc n) k d h =
    ⊎_elim
    (λ (lt : k < n). get_or_append_left (firsts v n) (v n ∷ []) d k (let e = length-firsts v n in omega arith) ∙ firsts-at v n k d lt)
    (λ (le : n ≤ k). let e : k ≡ n = omega arith in get_or_push (firsts v n) (v n) d k (length-firsts v n ∙ sym e) ∙ ap v (sym e))
    (cases_lt k n)

pub values_same : (v w : ℕ → Value) (xs : List Sym) → ((k : ℕ) → Contains xs (Var k) → v k ≡ w k) → values_of v xs ≡ values_of w xs
values_same v w [] h = refl
values_same v w (Const c ∷ xs) h = let i = values_same v w xs (λ k l. h k (Contains-later (Const c) xs (Var k) l)) in cc
values_same v w (Var k ∷ xs) h =
    let i = values_same v w xs (λ j l. h j (Contains-later (Var k) xs (Var j) l)) in
    let j = h k (0, omega arith, refl) in
    cc

-- a number above all variables
row_vars : List Sym → ℕ
row_vars [] = 0
row_vars (Const c ∷ xs) = row_vars xs
row_vars (Var k ∷ xs) = suc k + row_vars xs

rows_vars : List (List Sym) → ℕ
rows_vars [] = 0
rows_vars (x ∷ xs) = row_vars x + rows_vars xs

row_below : (n : ℕ) (xs : List Sym) → row_vars xs ≤ n → (k j : ℕ) → j < length xs → get_or xs j (Var k) ≡ Var k → k < n
unfolding row_vars
row_below n [] h k j l e = absurd (omega arith)
row_below n (Const c ∷ xs) h k zero l e = absurd (cc)
row_below n (Var i ∷ xs) h k zero l e = let same : i ≡ k = cc in omega arith
row_below n (Const c ∷ xs) h k (suc j) l e = row_below n xs h k j (omega arith) e
row_below n (Var i ∷ xs) h k (suc j) l e = row_below n xs (omega arith) k j (omega arith) e

rows_below : (n : ℕ) (rows : List (List Sym)) (i : ℕ) (d : List Sym) → i < length rows → rows_vars rows ≤ n → AreBelow n (get_or rows i d)
unfolding rows_vars
rows_below n [] i d h l = absurd (omega arith)
rows_below n (x ∷ xs) zero d h l = λ k c. row_below n x (omega arith) k c.0 c.1 c.2
rows_below n (x ∷ xs) (suc i) d h l = rows_below n xs i d (omega arith) (omega arith)

-- a list of values for all variables of the tableau, and for as many more as wanted
pub record Listed (t : Tab) (v : ℕ → Value) (values : List Value) : Type 0 where
  pub below : AreVarsBelow (length values) t
  pub head : values_of (nth values) t.head ≡ values_of v t.head
  pub rows : (i : ℕ) (d : List Sym) → i < length t.rows → values_of (nth values) (get_or t.rows i d) ≡ values_of v (get_or t.rows i d)
  pub same : (k : ℕ) → k < length values → nth values k ≡ v k

pub listed : (t : Tab) (v : ℕ → Value) → (values : List Value) × Listed t v values
listed t v =
    let n : ℕ = row_vars t.head + rows_vars t.rows in
    let values = firsts v n in
    let len = length-firsts v n in
    let same : (k : ℕ) → k < n → nth values k ≡ v k = λ k l. firsts-at v n k (Int (pos 0)) l in
    let head : AreBelow n t.head = λ k c. row_below n t.head (omega arith) k c.0 c.1 c.2 in
    let rows : (i : ℕ) (d : List Sym) → i < length t.rows → AreBelow n (get_or t.rows i d) = λ i d l. rows_below n t.rows i d l (omega arith) in (
      values,
      record {
        below = record { head = subst (λ n. AreBelow n t.head) (sym len) head; rows = λ i d l. subst (λ n. AreBelow n (get_or t.rows i d)) (sym len) (rows i d l) };
        head = values_same (nth values) v t.head (λ k c. same k (head k c));
        rows = λ i d l. values_same (nth values) v (get_or t.rows i d) (λ k c. same k (rows i d l k c));
        same = λ k l. same k (omega arith);
      },
    )

-- h is an answer by a list of values that is longer than every variable number, and gives variable k the k-th value
pub record ExtByList (t : Tab) (universe : List (List Value)) (h : List Value) : Type 0 where
  pub values : List Value
  pub below : AreVarsBelow (length values) t
  pub sends : Sends (nth values) t.rows universe
  pub gives : values_of (nth values) t.head ≡ h

pub by_list : (t : Tab) (universe : List (List Value)) (h : List Value) → Ext t universe h → ExtByList t universe h
by_list t universe h e =
    let l = listed t e.valuation in
    record {
      values = l.0;
      below = l.1.below;
      sends = λ i d low. subst (Contains universe) (sym (l.1.rows i d low)) (e.holds i d low);
      gives = l.1.head ∙ e.gives;
    }

pub from_list : (t : Tab) (universe : List (List Value)) (h : List Value) → ExtByList t universe h → Ext t universe h
from_list t universe h e = record { valuation = nth e.values; holds = e.sends; gives = e.gives }
