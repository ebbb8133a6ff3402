-- The constants of equalities, one constant more; and the names of constants.
use Rattle.std.proofs.Common.{◌≡◌, ℕ, suc, ◌<◌, ◌≤◌, ⊎_elim, true, false, cond, List, [], ◌∷◌, ◌++◌, length, get_or, refl, sym, ap, ◌∙◌, arith}
use Rattle.std.proofs.lemmas.Bool.{cases_Bool, cond-true, cond-false, true≢false, false≢true}
use Rattle.su_base.specs.declared.values.Value.{Value}
use Rattle.su_base.specs.declared.values.Value.TheVariants.{Text}
use Rattle.su_tableau.specs.declared.symbols.Sym.TheVariants.{Const}
use Rattle.su_classes.specs.Tables.{rep}
use Rattle.su_classes.specs.Symbols.{symbol_at}
use Rattle.su_classes.specs.inside.Symbols.{same_value, has_constant, constant_place, AreDistinct, name_in}
use Rattle.su_classes.proofs.ValueOrder.{same_itself, same_is}
use Rattle.su_classes.proofs.Places.{place_is, place_at}

pub place_has : (vs : List Value) (c : Value) → constant_place vs c < length vs → has_constant vs c ≡ true
place_has [] c h = absurd (omega arith)
place_has (v ∷ vs) c h =
    elim (same_value v c) as (λ b. cond b 0 (suc (constant_place vs c)) < suc (length vs) → cond b true (has_constant vs c) ≡ true) [
      | true ↦ λ k. refl
      | false ↦ λ k. place_has vs c (omega arith)
    ] h

pub place_out : (vs : List Value) (c : Value) → length vs ≤ constant_place vs c → has_constant vs c ≡ false
place_out vs c h =
    ⊎_elim
    (λ (t : has_constant vs c ≡ true). absurd (let l = (place_is vs c t).0 in omega arith))
    (λ (f : has_constant vs c ≡ false). f)
    (cases_Bool (has_constant vs c))

pub has_push : (vs : List Value) (c : Value) → has_constant (vs ++ c ∷ []) c ≡ true
has_push [] c = cond-true (same_value c c) true false (same_itself c)
has_push (v ∷ vs) c =
    let r = has_push vs c in
    elim (same_value v c) as (λ b. cond b true (has_constant (vs ++ c ∷ []) c) ≡ true) [ true ↦ refl | false ↦ r ]

other_push : (vs : List Value) (c v : Value) → (c ≡ v → ⊥) → has_constant vs v ≡ false → has_constant (vs ++ c ∷ []) v ≡ false
other_push [] c v ne h =
    ⊎_elim
    (λ (t : same_value c v ≡ true). absurd (ne (same_is c v t)))
    (λ (f : same_value c v ≡ false). cond-false (same_value c v) true false f)
    (cases_Bool (same_value c v))
other_push (x ∷ xs) c v ne h =
    elim (same_value x v) as (λ b. cond b true (has_constant xs v) ≡ false → cond b true (has_constant (xs ++ c ∷ []) v) ≡ false) [
      | true ↦ λ k. absurd (true≢false k)
      | false ↦ λ k. other_push xs c v ne k
    ] h

pub distinct_push : (vs : List Value) (c : Value) → has_constant vs c ≡ false → AreDistinct vs → AreDistinct (vs ++ c ∷ [])
distinct_push [] c h d = (refl, tt)
distinct_push (v ∷ vs) c h d =
    elim (same_value v c) as (λ b. same_value v c ≡ b → cond b true (has_constant vs c) ≡ false → AreDistinct (v ∷ vs ++ c ∷ [])) [
      | true ↦ λ t k. absurd (true≢false k)
      | false ↦ λ f k. (other_push vs c v (λ e. true≢false (sym (same_itself v) ∙ ap (same_value v) (sym e) ∙ f)) d.0, distinct_push vs c k d.1)
    ] refl h

pub kept_push : (vs : List Value) (c v : Value) → has_constant vs v ≡ true → has_constant (vs ++ c ∷ []) v ≡ true
kept_push [] c v h = absurd (false≢true h)
kept_push (x ∷ xs) c v h =
    elim (same_value x v) as (λ b. cond b true (has_constant xs v) ≡ true → cond b true (has_constant (xs ++ c ∷ []) v) ≡ true) [
      | true ↦ λ k. refl
      | false ↦ λ k. kept_push xs c v k
    ] h

-- ---- names of constants

pub known_name : (vs : List Value) (limit : ℕ) (table : List ℕ) (c : Value) (item : ℕ) → item ≡ constant_place vs c → item < length vs → symbol_at vs (rep table item) ≡ name_in vs limit table (Const c)
known_name vs limit table c item e l =
    let has = place_has vs c (omega arith) in
    ap (λ k. symbol_at vs (rep table k)) e ∙ sym (cond-true (has_constant vs c) (symbol_at vs (rep table (constant_place vs c))) (Const c) has)

pub other_name : (vs : List Value) (limit : ℕ) (table : List ℕ) (c : Value) (item : ℕ) → item ≡ constant_place vs c → length vs ≤ item → name_in vs limit table (Const c) ≡ Const c
other_name vs limit table c item e l = cond-false (has_constant vs c) (symbol_at vs (rep table (constant_place vs c))) (Const c) (place_out vs c (omega arith))

-- a constant that isn't its own representative stands for another
pub clash_of : (vs : List Value) (table : List ℕ) → AreDistinct vs → (i : ℕ) → i < length vs → rep table i < i → (get_or vs i (Text []) ≡ get_or vs (rep table i) (Text []) → ⊥)
clash_of vs table d i l less e =
    let a = place_at vs d i l in
    let b = place_at vs d (rep table i) (omega arith) in
    let c = ap (constant_place vs) e in
    omega arith
