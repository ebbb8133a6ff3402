-- Steps on a part of a body.
use Rattle.std.proofs.Common.{◌≡◌, ℕ, ◌<◌, Bool, true, false, List, [], ◌∷◌, length, get_or, Contains, refl, sym, ap, subst, ◌∙◌, ⊎_elim, arith}
use Rattle.std.specs.Prelude.{nat_eq, cond, ◌&&◌}
use Rattle.std.specs.Cmp.{first_so, second_so}
use Rattle.std.proofs.lemmas.Bool.Decides.{nat_tests}
use Rattle.std.proofs.lemmas.Bool.{cases_eq, cases_Bool, true≢false, and_from}
use Rattle.std.proofs.lemmas.List.Folds.{list_any_at}
use Rattle.su_exec.specs.inside.Edges.{Edge, FitsAll, has, among, always, HaveSameValues, Goes, Keeps, Same}
use Rattle.su_exec.proofs.Splits.{Splits, Enough, IsWithin, IsTestOf}

-- ---- agreeing

has_head : (x : ℕ) (xs : List ℕ) → has (x ∷ xs) x ≡ true
has_head x xs = list_any_at (λ y. nat_eq y x) (x ∷ xs) 0 0 (omega arith) (grind (arith, nat_tests))

has_tail : (x : ℕ) (xs : List ℕ) (k : ℕ) → has xs k ≡ true → has (x ∷ xs) k ≡ true
has_tail x xs k h = grind (arith, nat_tests, h)

-- agreeing at each variable is agreeing
pub agree_from : {X : Type 0} (v w : ℕ → X) (ks : List ℕ) → ((k : ℕ) → has ks k ≡ true → v k ≡ w k) → HaveSameValues ks v w
agree_from v w [] h = refl
agree_from v w (x ∷ xs) h =
    let e = h x (has_head x xs) in
    let i = agree_from v w xs (λ k m. h k (has_tail x xs k m)) in
    cc

pub agree_at : {X : Type 0} (v w : ℕ → X) (ks : List ℕ) → HaveSameValues ks v w → (k : ℕ) → has ks k ≡ true → v k ≡ w k
agree_at v w [] h k m = absurd (true≢false (sym m))
agree_at v w (x ∷ xs) h k m =
    ⊎_elim
    (λ (e : x ≡ k). let first : v x ≡ w x = cc in subst (λ k. v k ≡ w k) e first)
    (λ (ne : x ≡ k → ⊥). let rest : HaveSameValues xs v w = cc in agree_at v w xs rest k (grind (arith, nat_tests, m, ne)))
    (cases_eq x k)

-- ---- fitting

has_among : {X : Type 0} (es : List (Edge X)) (i : ℕ) (d : Edge X) (k : ℕ) → i < length es → has (get_or es i d).vars k ≡ true → among es k ≡ true
has_among es i d k l h = list_any_at (λ e. has e.vars k) es i d l h

-- what agrees on the variables of a body fits it too
pub fits_agree : {X : Type 0} (v w : ℕ → X) (es : List (Edge X)) → ((k : ℕ) → among es k ≡ true → v k ≡ w k) → FitsAll v es → FitsAll w es
fits_agree v w es same fits i d l =
    let e = get_or es i d in
    subst (Contains e.rows) (agree_from v w e.vars (λ k h. same k (has_among es i d k l h))) (fits i d l)

-- ---- steps

pub keeps_refl : (ks : List ℕ) (es : List (Edge ℕ)) (s : (ℕ → ℕ) → Bool) → Keeps ks es s es s
keeps_refl ks es s = (λ v f p. record { valuation = v; fits = f; passes = p; same = refl }, λ v f p. record { valuation = v; fits = f; passes = p; same = refl })

goes_trans : (ks : List ℕ) (es fs gs : List (Edge ℕ)) (s t u : (ℕ → ℕ) → Bool) → Goes ks es s fs t → Goes ks fs t gs u → Goes ks es s gs u
goes_trans ks es fs gs s t u a b v f p =
    let x = a v f p in
    let y = b x.valuation x.fits x.passes in
    record { valuation = y.valuation; fits = y.fits; passes = y.passes; same = x.same ∙ y.same }

pub keeps_trans : (ks : List ℕ) (es fs gs : List (Edge ℕ)) (s t u : (ℕ → ℕ) → Bool) → Keeps ks es s fs t → Keeps ks fs t gs u → Keeps ks es s gs u
keeps_trans ks es fs gs s t u a b = (goes_trans ks es fs gs s t u a.0 b.0, goes_trans ks gs fs es u t s b.1 a.1)

-- bodies with the same valuations, under one test
pub same_keeps : (ks : List ℕ) (es fs : List (Edge ℕ)) (s : (ℕ → ℕ) → Bool) → Same es fs → Keeps ks es s fs s
same_keeps ks es fs s same = (λ v f p. record { valuation = v; fits = (same v).0 f; passes = p; same = refl }, λ v f p. record { valuation = v; fits = (same v).1 f; passes = p; same = refl })

-- ---- tests

-- w on the variables of the part, v elsewhere
abbrev pub patched : {X : Type 0} → List (Edge X) → (ℕ → X) → (ℕ → X) → ℕ → X
patched gs w v k = cond (among gs k) (w k) (v k)

pub patched_in : {X : Type 0} (gs : List (Edge X)) (w v : ℕ → X) (k : ℕ) → among gs k ≡ true → patched gs w v k ≡ w k
patched_in gs w v k h = ap (λ b. cond b (w k) (v k)) h

-- where the part's variables among those at hand have the same values in w and v, nothing changes
pub patched_out : {X : Type 0} (gs : List (Edge X)) (w v : ℕ → X) (k : ℕ) → (among gs k ≡ true → v k ≡ w k) → v k ≡ patched gs w v k
patched_out gs w v k h =
    ⊎_elim
    (λ (e : among gs k ≡ true). h e ∙ sym (patched_in gs w v k e))
    (λ (e : among gs k ≡ false). sym (ap (λ b. cond b (w k) (v k)) e))
    (cases_Bool (among gs k))

-- a step on a part with its own test, beside the rest with its test u, which depends on the variables us
pub step_on_part :
    (needed ks us : List ℕ) (es fs gs hs rs : List (Edge ℕ)) (st s u : (ℕ → ℕ) → Bool)
    → Splits es gs rs → Splits fs hs rs → ((v : ℕ → ℕ) → st v ≡ (s v && u v)) → Keeps ks gs s hs always → IsWithin hs ks → Enough needed ks gs rs
    → IsTestOf s gs → ((v w : ℕ → ℕ) → HaveSameValues us v w → u v ≡ u w) → ((k : ℕ) → among gs k ≡ true → has us k ≡ true → has ks k ≡ true) → Keeps needed es st fs u
step_on_part needed ks us es fs gs hs rs st s u left right both keeps within enough own other in_test = (
  λ v f p.
      let parts = (left v).0 f in
      let q = sym (both v) ∙ p in
      let w = keeps.0 v parts.0 (first_so (s v) (u v) q) in
      let here = fits_agree w.valuation v hs (λ k h. sym (agree_at v w.valuation ks w.same k (within k h))) w.fits in
      record { valuation = v; fits = (right v).1 (here, parts.1); passes = second_so (s v) (u v) q; same = refl },
  λ v f p.
      let parts = (right v).0 f in
      let w = keeps.1 v parts.0 refl in
      let x = patched gs w.valuation v in
      let here = fits_agree w.valuation x gs (λ k h. sym (patched_in gs w.valuation v k h)) w.fits in
      let rest = fits_agree v x rs (λ k h. patched_out gs w.valuation v k (λ g. agree_at v w.valuation ks w.same k (enough.in_rest k g h))) parts.1 in
      let ps : s x ≡ true = own x w.valuation (λ k h. patched_in gs w.valuation v k h) ∙ w.passes in
      let pu : u x ≡ true = sym (other v x (agree_from v x us (λ k h. patched_out gs w.valuation v k (λ g. agree_at v w.valuation ks w.same k (in_test k g h))))) ∙ p in
      record {
        valuation = x;
        fits = (left x).1 (here, rest);
        passes = both x ∙ and_from (s x) (u x) ps pu;
        same = agree_from v x needed (λ k h. patched_out gs w.valuation v k (λ g. agree_at v w.valuation ks w.same k (enough.in_needed k g h)));
      },
)
