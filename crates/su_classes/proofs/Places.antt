-- The constants and then the variables are a numbering of the symbols.
use Rattle.std.proofs.Common.{◌≡◌, ℕ, zero, suc, ◌+◌, ◌-◌, ◌<◌, ◌≤◌, ⊎_elim, Bool, true, false, cond, List, [], ◌∷◌, length, get_or, refl, sym, ap, ◌∙◌, arith}
use Rattle.std.specs.Prelude.{nat_lt}
use Rattle.std.proofs.lemmas.Bool.{cases_Bool, cases_lt, cond-true, cond-false, true≢false, false≢true, lt-ltb, le-ltb, ltb-true}
use Rattle.su_base.specs.declared.values.Value.{Value}
use Rattle.su_base.specs.declared.values.Value.TheVariants.{Text}
use Rattle.su_tableau.specs.declared.symbols.Sym.{Sym}
use Rattle.su_tableau.specs.declared.symbols.Sym.TheVariants.{Const, Var}
use Rattle.su_classes.specs.Tables.{rep}
use Rattle.su_classes.specs.Symbols.{symbol_at}
use Rattle.su_classes.specs.inside.Symbols.{same_value, has_constant, constant_place, AreDistinct, is_known, symbol_number, name_in}
use Rattle.su_classes.proofs.ValueOrder.{same_itself, same_is}

pub place_is : (vs : List Value) (c : Value) → has_constant vs c ≡ true → (constant_place vs c < length vs) × (get_or vs (constant_place vs c) (Text []) ≡ c)
place_is [] c h = absurd (false≢true h)
place_is (v ∷ vs) c h =
    elim (same_value v c) as (λ b. same_value v c ≡ b → cond b true (has_constant vs c) ≡ true → (cond b 0 (suc (constant_place vs c)) < suc (length vs)) × (get_or (v ∷ vs) (cond b 0 (suc (constant_place vs c))) (Text []) ≡ c)) [
      | true ↦ λ t k. (omega arith, same_is v c t)
      | false ↦ λ f k. let w = place_is vs c k in ((let l = w.0 in omega arith), w.1)
    ] refl h

pub has_at : (vs : List Value) (i : ℕ) → i < length vs → has_constant vs (get_or vs i (Text [])) ≡ true
has_at [] i l = absurd (omega arith)
has_at (v ∷ vs) zero l = cond-true (same_value v v) true (has_constant vs v) (same_itself v)
has_at (v ∷ vs) (suc i) l =
    let r = has_at vs i (omega arith) in
    let c = get_or vs i (Text []) in
    elim (same_value v c) as (λ b. cond b true (has_constant vs c) ≡ true) [ true ↦ refl | false ↦ r ]

pub place_at : (vs : List Value) → AreDistinct vs → (i : ℕ) → i < length vs → constant_place vs (get_or vs i (Text [])) ≡ i
place_at [] d i l = absurd (omega arith)
place_at (v ∷ vs) d zero l = cond-true (same_value v v) 0 (suc (constant_place vs v)) (same_itself v)
place_at (v ∷ vs) d (suc i) l =
    let c = get_or vs i (Text []) in
    let r = place_at vs d.1 i (omega arith) in
    let has = has_at vs i (omega arith) in
    elim (same_value v c) as (λ b. same_value v c ≡ b → cond b 0 (suc (constant_place vs c)) ≡ suc i) [
      | true ↦ λ t. absurd (true≢false (sym has ∙ ap (has_constant vs) (sym (same_is v c t)) ∙ d.0))
      | false ↦ λ f. ap (λ k. suc k) r
    ] refl

-- a value that is not there has the number of values for its place
pub place_none : (vs : List Value) (c : Value) → has_constant vs c ≡ false → constant_place vs c ≡ length vs
place_none [] c h = refl
place_none (v ∷ vs) c h =
    elim (same_value v c) as (λ b. cond b true (has_constant vs c) ≡ false → cond b 0 (suc (constant_place vs c)) ≡ suc (length vs)) [
      | true ↦ λ k. absurd (true≢false k)
      | false ↦ λ k. ap (λ k. suc k) (place_none vs c k)
    ] h

-- ---- the numbering

-- how symbols are numbered: those that are known have the numbers below items, the constants before the variables
pub record IsNumbering (base items : ℕ) (known : Sym → Bool) (number : Sym → ℕ) (symbol : ℕ → Sym) : Type 0 where
  pub back : (x : Sym) → known x ≡ true → symbol (number x) ≡ x
  pub number_in : (x : Sym) → known x ≡ true → number x < items
  pub forth : (i : ℕ) → i < items → number (symbol i) ≡ i
  pub symbol_known : (i : ℕ) → i < items → known (symbol i) ≡ true
  pub var_number : (k : ℕ) → number (Var k) ≡ base + k
  pub const_number : (c : Value) → known (Const c) ≡ true → number (Const c) < base

module _ (vs : List Value) (limit : ℕ) where
  pub symbol_low : (i : ℕ) → i < length vs → symbol_at vs i ≡ Const (get_or vs i (Text []))
  symbol_low i l = cond-true (nat_lt i (length vs)) (Const (get_or vs i (Text []))) (Var (i - length vs)) (lt-ltb i (length vs) l)

  pub symbol_high : (i p : ℕ) → i ≡ length vs + p → symbol_at vs i ≡ Var p
  symbol_high i p e = cond-false (nat_lt i (length vs)) (Const (get_or vs i (Text []))) (Var (i - length vs)) (le-ltb i (length vs) (omega arith)) ∙ ap Var (omega arith)

  back : (x : Sym) → is_known vs limit x ≡ true → symbol_at vs (symbol_number vs x) ≡ x
  back (Const c) k = let w = place_is vs c k in symbol_low (constant_place vs c) w.0 ∙ ap Const w.1
  back (Var p) k = symbol_high (length vs + p) p refl

  number_in : (x : Sym) → is_known vs limit x ≡ true → symbol_number vs x < length vs + limit
  number_in (Const c) k = let w = (place_is vs c k).0 in omega arith
  number_in (Var p) k = let l = ltb-true p limit k in omega arith

  module _ (distinct : AreDistinct vs) where
    forth : (i : ℕ) → i < length vs + limit → symbol_number vs (symbol_at vs i) ≡ i
    forth i l =
        ⊎_elim
        (λ (low : i < length vs). ap (symbol_number vs) (symbol_low i low) ∙ place_at vs distinct i low)
        (λ (high : length vs ≤ i). ap (symbol_number vs) (symbol_high i (i - length vs) (omega arith)) ∙ omega arith)
        (cases_lt i (length vs))

    symbol_known : (i : ℕ) → i < length vs + limit → is_known vs limit (symbol_at vs i) ≡ true
    symbol_known i l =
        ⊎_elim
        (λ (low : i < length vs). ap (is_known vs limit) (symbol_low i low) ∙ has_at vs i low)
        (λ (high : length vs ≤ i). ap (is_known vs limit) (symbol_high i (i - length vs) (omega arith)) ∙ lt-ltb (i - length vs) limit (omega arith))
        (cases_lt i (length vs))

    pub numbering : IsNumbering (length vs) (length vs + limit) (is_known vs limit) (symbol_number vs) (symbol_at vs)
    numbering = record {
      back = back;
      number_in = number_in;
      forth = forth;
      symbol_known = symbol_known;
      var_number = λ k. refl;
      const_number = λ c k. (place_is vs c k).0;
    }

-- ---- names of constants

-- where the constants are their own representatives, each is its own name
pub own_constant : (vs : List Value) (limit : ℕ) (table : List ℕ) (c : Value) → ((i : ℕ) → i < length vs → rep table i ≡ i) → name_in vs limit table (Const c) ≡ Const c
own_constant vs limit table c own =
    ⊎_elim
    (λ (t : has_constant vs c ≡ true).
    let w = place_is vs c t in
    cond-true (has_constant vs c) (symbol_at vs (rep table (constant_place vs c))) (Const c) t ∙ ap (symbol_at vs) (own (constant_place vs c) w.0) ∙ symbol_low vs limit (constant_place vs c) w.0 ∙ ap Const w.1)
    (λ (f : has_constant vs c ≡ false). cond-false (has_constant vs c) (symbol_at vs (rep table (constant_place vs c))) (Const c) f)
    (cases_Bool (has_constant vs c))
