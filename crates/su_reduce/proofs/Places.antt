-- Places of variables, and when some valuation gives cells a row.
use Rattle.std.proofs.Common.{◌≡◌, ◌<◌, ◌≤◌, ◌+◌, ℕ, zero, suc, List, [], ◌∷◌, ◌++◌, length, get_or, Contains, pos, refl, sym, ap, subst, ◌∙◌, ⊎_elim, arith, below_more}
use Rattle.std.proofs.lemmas.Bool.{cases_eq}
use Rattle.std.proofs.lemmas.Bool.Decides.{nat_tests}
use Rattle.std.proofs.lemmas.List.{get_or-map, get_or_default, get_or_append_left, get_or_push}
use Rattle.su_base.proofs.Items.{Contains-cases, Contains-nil, get_or-push_each, length-push}
use Rattle.su_base.specs.declared.values.Value.{Value}
use Rattle.su_base.specs.declared.values.Value.TheVariants.{Int}
use Rattle.su_tableau.specs.declared.symbols.Sym.{Sym}
use Rattle.su_tableau.specs.declared.symbols.Sym.TheVariants.{Const, Var}
use Rattle.su_tableau.specs.Valuations.{nth, value_of, values_of}
use Rattle.su_tableau.proofs.SymbolParts.{const_var}
use Rattle.su_reduce.specs.Shapes.{cell_at, variable_place, AreFirsts}
use Rattle.su_reduce.specs.inside.Keys.{assigned, IsPair, AreShared}

-- the first cell that holds the variable is at its place
pub place_is : (cells : List Sym) (k n : ℕ) → ((i : ℕ) → i < n → cell_at cells i ≡ Var k → ⊥) → n < length cells → cell_at cells n ≡ Var k → variable_place cells k ≡ n
place_is [] k n none l is = absurd (omega (arith, l))
place_is (Const d ∷ cells) k zero none l is = absurd (const_var d k is)
place_is (Var j ∷ cells) k zero none l is = let same : j ≡ k = cc in grind (arith, nat_tests, same)
place_is (Const d ∷ cells) k (suc n) none l is = ap suc (place_is cells k n (λ i h. none (suc i) (omega (arith, h))) (omega (arith, l)) is)
place_is (Var j ∷ cells) k (suc n) none l is =
    let other : j ≡ k → ⊥ = λ e. none 0 (omega arith) (ap Var e) in
    let rest = place_is cells k n (λ i h. none (suc i) (omega (arith, h))) (omega (arith, l)) is in
    grind (arith, nat_tests, other, rest)

-- where none holds it, the place is their number
pub place_none : (cells : List Sym) (k : ℕ) → ((i : ℕ) → i < length cells → cell_at cells i ≡ Var k → ⊥) → variable_place cells k ≡ length cells
place_none [] k none = refl
place_none (Const d ∷ cells) k none = ap suc (place_none cells k (λ i h. none (suc i) (omega (arith, h))))
place_none (Var j ∷ cells) k none =
    let other : j ≡ k → ⊥ = λ e. none 0 (omega arith) (ap Var e) in
    let rest = place_none cells k (λ i h. none (suc i) (omega (arith, h))) in
    grind (arith, nat_tests, other, rest)

-- a variable that stands there stands at its place
pub place_holds : (cells : List Sym) (k : ℕ) → Contains cells (Var k) → (variable_place cells k < length cells) × (cell_at cells (variable_place cells k) ≡ Var k)
place_holds [] k c = absurd (Contains-nil (Var k) c)
place_holds (Const d ∷ cells) k c =
    ⊎_elim
    (λ (e : Const d ≡ Var k). absurd (const_var d k e))
    (λ (there : Contains cells (Var k)). let rest = place_holds cells k there in let l = rest.0 in (omega (arith, l), rest.1))
    (Contains-cases (Const d) cells (Var k) c)
place_holds (Var j ∷ cells) k c =
    ⊎_elim
    (λ (e : j ≡ k). let here : variable_place (Var j ∷ cells) k ≡ 0 = grind (arith, nat_tests, e) in (omega (arith, here), ap (cell_at (Var j ∷ cells)) here ∙ ap Var e))
    (λ (other : j ≡ k → ⊥).
    let there : Contains cells (Var k) = ⊎_elim (λ (e : Var j ≡ Var k). let same : j ≡ k = cc in absurd (other same)) (λ (t : Contains cells (Var k)). t) (Contains-cases (Var j) cells (Var k) c) in
    let rest = place_holds cells k there in
    let l = rest.0 in
    let next : variable_place (Var j ∷ cells) k ≡ suc (variable_place cells k) = grind (arith, nat_tests, other) in
    (omega (arith, l, next), ap (cell_at (Var j ∷ cells)) next ∙ rest.1))
    (cases_eq j k)

pub contains_at : (cells : List Sym) (p k : ℕ) → p < length cells → cell_at cells p ≡ Var k → Contains cells (Var k)
contains_at cells p k l is = (p, l, get_or_default cells p (Var k) (Var 0) l ∙ is)

-- the value that a row of a valuation has where a cell holds a variable
pub read_value : (v : ℕ → Value) (cells : List Sym) (row : List Value) (p k : ℕ) → values_of v cells ≡ row → p < length cells → cell_at cells p ≡ Var k → nth row p ≡ v k
read_value v cells row p k gives l is = ap (λ (xs : List Value). nth xs p) (sym gives) ∙ get_or-map (value_of v) cells p (Var 0) (Int (pos 0)) l ∙ ap (value_of v) is

-- a variable's place is the least that holds it
pub place_least : (cells : List Sym) (k p : ℕ) → p < length cells → cell_at cells p ≡ Var k → variable_place cells k ≤ p
place_least [] k p l is = absurd (omega (arith, l))
place_least (Const d ∷ cells) k zero l is = absurd (const_var d k is)
place_least (Const d ∷ cells) k (suc p) l is = let rest = place_least cells k p (omega (arith, l)) is in omega (arith, rest)
place_least (Var j ∷ cells) k zero l is = let same : j ≡ k = cc in let here : variable_place (Var j ∷ cells) k ≡ 0 = grind (arith, nat_tests, same) in omega (arith, here)
place_least (Var j ∷ cells) k (suc p) l is =
    let rest = place_least cells k p (omega (arith, l)) is in
    ⊎_elim
    (λ (e : j ≡ k). let here : variable_place (Var j ∷ cells) k ≡ 0 = grind (arith, nat_tests, e) in omega (arith, here))
    (λ (other : j ≡ k → ⊥). let next : variable_place (Var j ∷ cells) k ≡ suc (variable_place cells k) = grind (arith, nat_tests, other) in omega (arith, next, rest))
    (cases_eq j k)

-- what is read at the places is what the valuation gives
pub assigned_is : (v : ℕ → Value) (cells : List Sym) (row : List Value) (k : ℕ) → values_of v cells ≡ row → Contains cells (Var k) → assigned cells row k ≡ v k
assigned_is v cells row k gives c = let at = place_holds cells k c in read_value v cells row (variable_place cells k) k gives at.0 at.1

-- where a place is found, the variable stands there
pub place_found : (cells : List Sym) (k : ℕ) → variable_place cells k < length cells → cell_at cells (variable_place cells k) ≡ Var k
place_found [] k l = absurd (omega (arith, l))
place_found (Const d ∷ cells) k l = place_found cells k (omega (arith, l))
place_found (Var j ∷ cells) k l =
    ⊎_elim
    (λ (e : j ≡ k). let here : variable_place (Var j ∷ cells) k ≡ 0 = grind (arith, nat_tests, e) in ap (cell_at (Var j ∷ cells)) here ∙ ap Var e)
    (λ (other : j ≡ k → ⊥).
    let next : variable_place (Var j ∷ cells) k ≡ suc (variable_place cells k) = grind (arith, nat_tests, other) in
    ap (cell_at (Var j ∷ cells)) next ∙ place_found cells k (omega (arith, l, next)))
    (cases_eq j k)

pub firsts_more : (cells : List Sym) (n : ℕ) (places : List ℕ) (q : ℕ) → AreFirsts cells n places → q < length cells → ((k : ℕ) → cell_at cells n ≡ Var k → q ≡ variable_place cells k) → AreFirsts cells (n + 1) (places ++ q ∷ [])
firsts_more cells n places q so_far low is = record {
  same_length = length-push places q n so_far.same_length;
  below = get_or-push_each (λ i p. p < length cells) 0 places q n so_far.same_length so_far.below low;
  is_place = λ p k l. get_or-push_each (λ i r. cell_at cells i ≡ Var k → r ≡ variable_place cells k) 0 places q n so_far.same_length (λ i h. so_far.is_place i k h) (is k) p l;
}

-- the first place of a variable has the value that the valuation gives it
pub first_value : (v : ℕ → Value) (cells : List Sym) (firsts : List ℕ) (row : List Value) (p : ℕ) (x : Sym) (first : Value) (k : ℕ) → AreFirsts cells (length cells) firsts → p < length cells → values_of v cells ≡ row → x ≡ cell_at cells p → first ≡ nth row (get_or firsts p 0) → x ≡ Var k → v k ≡ first
first_value v cells firsts row p x first k are l gives x_is first_is var =
    let here : cell_at cells p ≡ Var k = sym x_is ∙ var in
    sym (first_is ∙ ap (nth row) (are.is_place p k l here) ∙ assigned_is v cells row k gives (contains_at cells p k l here))

-- ---- shared places

pub one_var : (x : Sym) (j k : ℕ) → x ≡ Var j → x ≡ Var k → j ≡ k
one_var x j k a b = cc

pub shared_none : (left right : List Sym) (p k : ℕ) (ls rs : List ℕ) → AreShared left right p ls rs → cell_at left p ≡ Var k → length right ≤ variable_place right k → AreShared left right (p + 1) ls rs
shared_none left right p k ls rs so_far is high = record {
  same_length = so_far.same_length;
  left_below = so_far.left_below;
  right_below = so_far.right_below;
  only = so_far.only;
  all = λ q j l. below_more (λ q. cell_at left q ≡ Var j → Contains right (Var j) → (i : ℕ) × IsPair left right ls rs i j) p (λ q h. so_far.all q j h)
      (λ at there. let low = (place_holds right k (subst (λ (n : ℕ). Contains right (Var n)) (one_var (cell_at left p) j k at is) there)).0 in absurd (omega (arith, low, high)))
      q l;
}

module _ (left right : List Sym) (p k q : ℕ) (ls rs : List ℕ) (so_far : AreShared left right p ls rs) (low : p < length left) (is : cell_at left p ≡ Var k) (q_is : q ≡ variable_place right k) (q_low : q < length right) where
  longer : length (ls ++ p ∷ []) ≡ length ls + 1
  longer = length-push ls p (length ls) refl

  kept : (i j : ℕ) → IsPair left right ls rs i j → IsPair left right (ls ++ p ∷ []) (rs ++ q ∷ []) i j
  kept i j pair =
      let l = pair.below in
      let same = so_far.same_length in
      record {
        below = omega (arith, l, longer);
        left_is = ap (cell_at left) (get_or_append_left ls (p ∷ []) 0 i l) ∙ pair.left_is;
        right_is = ap (cell_at right) (get_or_append_left rs (q ∷ []) 0 i (omega (arith, l, same))) ∙ pair.right_is;
      }

  added : IsPair left right (ls ++ p ∷ []) (rs ++ q ∷ []) (length ls) k
  added = record {
    below = omega (arith, longer);
    left_is = ap (cell_at left) (get_or_push ls p 0 (length ls) refl) ∙ is;
    right_is = ap (cell_at right) (get_or_push rs q 0 (length ls) (sym so_far.same_length)) ∙ (ap (cell_at right) q_is ∙ place_found right k (subst (λ (n : ℕ). n < length right) q_is q_low));
  }

  pub shared_more : AreShared left right (p + 1) (ls ++ p ∷ []) (rs ++ q ∷ [])
  shared_more = record {
    same_length = longer ∙ sym (length-push rs q (length ls) (sym so_far.same_length));
    left_below = λ i l. get_or-push_each (λ i x. x < length left) 0 ls p (length ls) refl so_far.left_below low i (omega (arith, l, longer));
    right_below = λ i l. get_or-push_each (λ i x. x < length right) 0 rs q (length ls) (sym so_far.same_length) so_far.right_below q_low i (omega (arith, l, longer));
    only = λ i l. below_more (λ i. (j : ℕ) × IsPair left right (ls ++ p ∷ []) (rs ++ q ∷ []) i j) (length ls) (λ i h. let one = so_far.only i h in (one.0, kept i one.0 one.1)) (k, added) i (omega (arith, l, longer));
    all = λ r j l. below_more (λ r. cell_at left r ≡ Var j → Contains right (Var j) → (i : ℕ) × IsPair left right (ls ++ p ∷ []) (rs ++ q ∷ []) i j) p
        (λ r h at there. let one = so_far.all r j h at there in (one.0, kept one.0 j one.1))
        (λ at there. (length ls, subst (λ (n : ℕ). IsPair left right (ls ++ p ∷ []) (rs ++ q ∷ []) (length ls) n) (one_var (cell_at left p) k j is at) added))
        r l;
  }
