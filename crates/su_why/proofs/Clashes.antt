-- At which places a head and a row clash, place after place.
use Rattle.std.proofs.Common.{◌≡◌, ◌≢◌, ◌⊎◌, inl, inr, ◌+◌, ◌<◌, ◌≤◌, ℕ, List, length, get_or, min, Some, sym, ap, subst, ◌∙◌, ⊎_elim, arith}
use Rattle.std.specs.Prelude.{slice_get}
use Rattle.std.proofs.lemmas.Bool.{cases_lt}
use Rattle.std.proofs.lemmas.Option.{slice_get-get_or, slice_get_within, same_Some}
use Rattle.std.specs.Bool.{Decides}
use Rattle.su_base.specs.declared.values.Value.{Value}
use Rattle.su_base.specs.contracts.values.ValuePartialEq.TheImpl.{ghosts}
use Rattle.su_base.proofs.Same.{value_eq-Decides}
use Rattle.su_tableau.specs.declared.symbols.Sym.{Sym}
use Rattle.su_tableau.specs.declared.symbols.Sym.TheVariants.{Const, Var}
use Rattle.su_why.specs.Heads.{StoodOtherwise, IsLonger, IsAnother, IsTwo, IsClash, IsFirstClash, HaveNoClash}

-- `==` of values is equality
pub value_same : (a b : Value) → Decides (ghosts.eq a b) (a ≡ b)
value_same = value_eq-Decides

-- what is read at a place
pub read_at : {X : Type 0} (xs : List X) (i : ℕ) (x : X) → i < length xs → x ≡ get_or xs i x → slice_get xs i ≡ Some x
read_at xs i x low is = slice_get-get_or xs i x low ∙ ap Some (sym is)

module _ (outputs : List Sym) (h : List Value) (j : ℕ) where
  -- none of the first i places
  abbrev pub NotStood : ℕ → ℕ → Type 0
  NotStood k i = (n : ℕ) → n < i → ¬ ((slice_get outputs n ≡ Some (Var k)) × (slice_get h n ≢ slice_get h j))

  pub not_stood_more : (k i : ℕ) → NotStood k i → ¬ ((slice_get outputs i ≡ Some (Var k)) × (slice_get h i ≢ slice_get h j)) → NotStood k (i + 1)
  not_stood_more k i before out n low here =
      ⊎_elim
      (λ (lt : n < i). before n lt here)
      (λ (le : i ≤ n). let e : n ≡ i = omega arith in out (subst (λ (m : ℕ). (slice_get outputs m ≡ Some (Var k)) × (slice_get h m ≢ slice_get h j)) e here))
      (cases_lt n i)

  pub none_stood : (k i : ℕ) → j ≤ i → NotStood k i → ¬ StoodOtherwise outputs h j k
  none_stood k i end before s = before s.earlier (let l = s.before in omega (arith, l)) (s.stood, s.differ)

  module _ (low : j < length outputs) (low_h : j < length h) where
    not_longer : ¬ IsLonger outputs h j
    not_longer longer =
        ⊎_elim
        (λ (a : (j < length outputs) × (length h ≤ j)). let high = a.1 in absurd (omega (arith, high)))
        (λ (b : (j < length h) × (length outputs ≤ j)). let high = b.1 in absurd (omega (arith, high)))
        longer

    -- at a constant
    pub constant_clash : (c w : Value) → slice_get outputs j ≡ Some (Const c) → slice_get h j ≡ Some w → c ≢ w → IsClash outputs h j
    constant_clash c w stands beside ne = inr (inl (record { constant = c; stands = stands; differ = λ e. ne (sym (same_Some w c (sym beside ∙ e))) }))

    pub constant_agrees : (c w : Value) → slice_get outputs j ≡ Some (Const c) → slice_get h j ≡ Some w → c ≡ w → ¬ IsClash outputs h j
    constant_agrees c w stands beside same clash =
        ⊎_elim
        (λ (longer : IsLonger outputs h j). not_longer longer)
        (λ (rest : IsAnother outputs h j ⊎ IsTwo outputs h j). ⊎_elim
        (λ (a : IsAnother outputs h j).
        let one : Const c ≡ Const a.constant = same_Some (Const c) (Const a.constant) (sym stands ∙ a.stands) in
        let is : c ≡ a.constant = cc in
        a.differ (beside ∙ ap Some (sym same ∙ is)))
        (λ (t : IsTwo outputs h j). let one : Const c ≡ Var t.variable = same_Some (Const c) (Var t.variable) (sym stands ∙ t.stands) in absurd (cc))
        rest)
        clash

    -- at a variable
    pub variable_clash : (k : ℕ) → slice_get outputs j ≡ Some (Var k) → StoodOtherwise outputs h j k → IsClash outputs h j
    variable_clash k stands otherwise = inr (inr (record { variable = k; stands = stands; otherwise = otherwise }))

    pub variable_agrees : (k : ℕ) → slice_get outputs j ≡ Some (Var k) → ¬ StoodOtherwise outputs h j k → ¬ IsClash outputs h j
    variable_agrees k stands out clash =
        ⊎_elim
        (λ (longer : IsLonger outputs h j). not_longer longer)
        (λ (rest : IsAnother outputs h j ⊎ IsTwo outputs h j). ⊎_elim
        (λ (a : IsAnother outputs h j). let one : Var k ≡ Const a.constant = same_Some (Var k) (Const a.constant) (sym stands ∙ a.stands) in absurd (cc))
        (λ (t : IsTwo outputs h j).
        let one : Var k ≡ Var t.variable = same_Some (Var k) (Var t.variable) (sym stands ∙ t.stands) in
        let is : k ≡ t.variable = cc in
        out (subst (StoodOtherwise outputs h j) (sym is) t.otherwise))
        rest)
        clash

-- ---- all places

abbrev pub NoClashTo : List Sym → List Value → ℕ → Type 0
NoClashTo outputs h n = (i : ℕ) → i < n → ¬ IsClash outputs h i

pub no_clash_more : (outputs : List Sym) (h : List Value) (n : ℕ) → NoClashTo outputs h n → ¬ IsClash outputs h n → NoClashTo outputs h (n + 1)
no_clash_more outputs h n before out i low here =
    ⊎_elim
    (λ (lt : i < n). before i lt here)
    (λ (le : n ≤ i). let e : i ≡ n = omega arith in out (subst (IsClash outputs h) e here))
    (cases_lt i n)

-- past both ends there is none
pub no_clash : (outputs : List Sym) (h : List Value) (n : ℕ) → length outputs ≤ n → length outputs ≡ length h → NoClashTo outputs h n → HaveNoClash outputs h
no_clash outputs h n end same before j clash =
    ⊎_elim
    (λ (lt : j < n). before j lt clash)
    (λ (le : n ≤ j). ⊎_elim
    (λ (longer : IsLonger outputs h j). ⊎_elim
    (λ (a : (j < length outputs) × (length h ≤ j)). let low = a.0 in absurd (omega (arith, low)))
    (λ (b : (j < length h) × (length outputs ≤ j)). let low = b.0 in absurd (omega (arith, low)))
    longer)
    (λ (rest : IsAnother outputs h j ⊎ IsTwo outputs h j). ⊎_elim
    (λ (a : IsAnother outputs h j). absurd (let low = slice_get_within outputs j (Const a.constant) a.stands in omega (arith, low)))
    (λ (t : IsTwo outputs h j). absurd (let low = slice_get_within outputs j (Var t.variable) t.stands in omega (arith, low)))
    rest)
    clash)
    (cases_lt j n)

-- where the one is longer, it clashes first where the other ends
pub longer_clash : (outputs : List Sym) (h : List Value) (n : ℕ) → n ≡ min (length outputs) (length h) → (length outputs ≡ length h → ⊥) → NoClashTo outputs h n → IsFirstClash outputs h n
longer_clash outputs h n is ne before = record {
  clash = ⊎_elim
      (λ (lt : length outputs < length h). let r : IsClash outputs h n = inl (inr (omega (arith, is), omega (arith, is))) in r)
      (λ (le : length h ≤ length outputs). let r : IsClash outputs h n = inl (inl (omega (arith, is, ne), omega (arith, is))) in r)
      (cases_lt (length outputs) (length h));
  first = before;
}
