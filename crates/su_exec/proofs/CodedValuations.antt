-- From valuations by values to valuations by codes, and back.
use Rattle.std.proofs.Common.{◌≡◌, ℕ, zero, suc, ◌<◌, ◌≤◌, Bool, true, false, List, [], ◌∷◌, length, get_or, refl, sym, ap, subst, ◌∙◌, ⊎_elim, arith}
use Rattle.std.specs.Prelude.{map, cond, All}
use Rattle.std.proofs.lemmas.Bool.{cases_Bool, cases_lt}
use Rattle.std.proofs.lemmas.List.{get_or-map, length-map, get_or_default}
use Rattle.std.proofs.lemmas.List.Elements.{All-head, All-tail}
use Rattle.std.proofs.lemmas.Simd.{map-map}
use Rattle.su_base.proofs.Same.{value_eq-Decides}
use Rattle.su_base.specs.declared.values.Value.{Value}
use Rattle.su_base.specs.contracts.values.ValuePartialEq.TheImpl.{ghosts}
use Rattle.su_reduce.specs.Codes.{AreApart, decode}
use Rattle.su_exec.specs.inside.Coded.{meaning, meanings, IsCoded}
use Rattle.su_exec.specs.inside.Edges.{Edge, Fits, FitsAll}
use Rattle.su_reduce.specs.Sheets.{AreBelow}

-- the first place of a value
abbrev pub place_in : List Value → Value → ℕ
place_in [] x = 0
place_in (y ∷ ys) x = cond (ghosts.eq x y) 0 (suc (place_in ys x))

pub record IsPlace (values : List Value) (x : Value) (p : ℕ) : Type 0 where
  pub low : p < length values
  pub is : decode values p ≡ x

pub placed : (values : List Value) (x : Value) (i : ℕ) → i < length values → decode values i ≡ x → IsPlace values x (place_in values x)
placed [] x i l e = absurd (omega arith)
placed (y ∷ ys) x zero l e =
    let t : ghosts.eq x y ≡ true = (value_eq-Decides x y).1 (sym e) in
    subst (IsPlace (y ∷ ys) x) (sym (ap (λ b. cond b 0 (suc (place_in ys x))) t)) (record { low = omega arith; is = e })
placed (y ∷ ys) x (suc i) l e =
    let on : Bool → ℕ = λ b. cond b 0 (suc (place_in ys x)) in
    ⊎_elim
    (λ (t : ghosts.eq x y ≡ true). subst (IsPlace (y ∷ ys) x) (sym (ap on t)) (record { low = omega arith; is = sym ((value_eq-Decides x y).0 t) }))
    (λ (f : ghosts.eq x y ≡ false).
    let r = placed ys x i (omega arith) e in
    let low = r.low in
    subst (IsPlace (y ∷ ys) x) (sym (ap on f)) (record { low = omega arith; is = r.is }))
    (cases_Bool (ghosts.eq x y))

-- a code is the place of its value
pub code_back : (values : List Value) → AreApart values → (c : ℕ) → c < length values → c ≡ place_in values (decode values c)
code_back values apart c l =
    let p = place_in values (decode values c) in
    let r = placed values (decode values c) c l refl in
    let low = r.low in
    ⊎_elim
    (λ (a : c < p). absurd (apart c p a low (sym r.is)))
    (λ (a : p ≤ c).
    ⊎_elim (λ (b : p < c). absurd (apart p c b l r.is)) (λ (b : c ≤ p). omega arith) (cases_lt p c))
    (cases_lt c p)

-- a row of codes whose values a valuation gives is the row of their places
row_back : (values : List Value) → AreApart values → (v : ℕ → Value) (r vars : List ℕ) → AreBelow r (length values) → map (decode values) r ≡ map v vars → r ≡ map (λ k. place_in values (v k)) vars
row_back values apart v [] [] low e = refl
row_back values apart v [] (k ∷ vars) low e = cc
row_back values apart v (c ∷ r) [] low e = cc
row_back values apart v (c ∷ r) (k ∷ vars) low e =
    let first : decode values c ≡ v k = cc in
    let rest : map (decode values) r ≡ map v vars = cc in
    let a : c ≡ place_in values (v k) = code_back values apart c (All-head (λ c. c < length values) c r low) ∙ ap (place_in values) first in
    let i = row_back values apart v r vars (All-tail (λ c. c < length values) c r low) rest in
    cc

pub fits_codes : (values : List Value) → AreApart values → (v : ℕ → Value) (e : Edge ℕ) → IsCoded values e → Fits v (meaning values e) → Fits (λ k. place_in values (v k)) e
fits_codes values apart v e coded h =
    let n = length-map e.rows (map (decode values)) in
    let m = h.1 in
    let l : h.0 < length e.rows = omega arith in
    let row = get_or e.rows h.0 [] in
    let at : get_or (map (map (decode values)) e.rows) h.0 (map v e.vars) ≡ map (decode values) row = get_or-map (map (decode values)) e.rows h.0 [] (map v e.vars) l in
    let back = row_back values apart v row e.vars (coded h.0 [] l) (sym at ∙ h.2) in
    (h.0, l, get_or_default e.rows h.0 (map (λ k. place_in values (v k)) e.vars) [] l ∙ back)

pub fits_values : (values : List Value) (w : ℕ → ℕ) (e : Edge ℕ) → Fits w e → Fits (λ k. decode values (w k)) (meaning values e)
fits_values values w e h =
    let n = length-map e.rows (map (decode values)) in
    let l = h.1 in
    (h.0, omega arith, get_or-map (map (decode values)) e.rows h.0 (map w e.vars) (map (λ k. decode values (w k)) e.vars) l ∙ ap (map (decode values)) h.2 ∙ map-map (decode values) w e.vars)

pub fits_all_codes : (values : List Value) → AreApart values → (v : ℕ → Value) (es : List (Edge ℕ)) → All (IsCoded values) es → FitsAll v (meanings values es) → FitsAll (λ k. place_in values (v k)) es
fits_all_codes values apart v es coded h k d l =
    let n = length-map es (meaning values) in
    let f = h k (meaning values d) (omega arith) in
    let at : get_or (map (meaning values) es) k (meaning values d) ≡ meaning values (get_or es k d) = get_or-map (meaning values) es k d (meaning values d) l in
    fits_codes values apart v (get_or es k d) (coded k d l) (subst (Fits v) at f)

pub fits_all_values : (values : List Value) (w : ℕ → ℕ) (es : List (Edge ℕ)) → FitsAll w es → FitsAll (λ k. decode values (w k)) (meanings values es)
fits_all_values values w es h k d l =
    let n = length-map es (meaning values) in
    let m : k < length es = omega arith in
    let none : Edge ℕ = record { vars = []; rows = [] } in
    let at : get_or (map (meaning values) es) k d ≡ meaning values (get_or es k none) = get_or-map (meaning values) es k none d m in
    subst (Fits (λ k. decode values (w k))) (sym at) (fits_values values w (get_or es k none) (h k none m))
