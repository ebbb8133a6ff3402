-- Two rows agree exactly where their targets hold one symbol at each of the places that they share.
use Rattle.std.proofs.Common.{◌≡◌, ℕ, ◌<◌, ◌≤◌, ◌+◌, ◌==◌, ◌↔◌, ◌⊎◌, true, List, [], ◌∷◌, ◌++◌, length, get_or, Contains, inl, inr, sym, ap, subst, ◌∙◌, ⊎_elim, arith}
use Rattle.std.proofs.lemmas.Bool.{cases_lt}
use Rattle.std.proofs.lemmas.Bool.Decides.{nat_tests}
use Rattle.std.proofs.lemmas.List.{get_or_default}
use Rattle.std.proofs.lemmas.List.Elements.{All-contains, Contains-push, Contains-push_cases, Contains-append_left}
use Rattle.su_base.proofs.Items.{All-members}
use Rattle.su_tableau.specs.declared.symbols.Sym.{Sym}
use Rattle.su_tableau.specs.Tableaux.{Tab, IsValid}
use Rattle.su_map.specs.Lists.{row_of}
use Rattle.su_check.specs.inside.Cells.{cell_at}
use Rattle.su_check.specs.inside.Agreement.{GoAlike, Goes}
use Rattle.su_refute.specs.declared.places.Places.{Places}
use Rattle.su_refute.specs.inside.Nets.{AreWithin, AreShared, AgreeInPlaces, IsSetOf, IsTold}

pub shared_within : (xs ys : List Sym) (n m : ℕ) (places : List Places) → AreShared xs ys places → length xs ≡ n → length ys ≡ m → AreWithin n m places
shared_within xs ys n m places h en em =
    All-members (λ x. (x.first < n) × (x.second < m)) places (λ x has.
    let s = (h x).0 has in let a = s.0 in let b = s.1 in
    (omega arith, omega arith))

pub at_agree : (xs us ys vs : List Sym) (places : List Places) → AreShared xs ys places → AgreeInPlaces places us vs → GoAlike xs us ys vs
at_agree xs us ys vs places h all c hc e he same =
    All-contains (λ x. cell_at us x.first ≡ cell_at vs x.second) places (record { first = c; second = e }) all ((h (record { first = c; second = e })).1 (hc, he, same))

pub agree_at : (xs us ys vs : List Sym) (places : List Places) → AreShared xs ys places → GoAlike xs us ys vs → AgreeInPlaces places us vs
agree_at xs us ys vs places h agree =
    All-members (λ x. cell_at us x.first ≡ cell_at vs x.second) places (λ x has. let s = (h x).0 has in agree x.first s.0 x.second s.1 s.2)

-- ---- places, one after another

abbrev places_at : ℕ → ℕ → Places
places_at f k = record { first = f; second = k }

pub places_more : (old now : List Places) (first : ℕ) (x : Sym) (ys : List Sym) (n : ℕ) → x ≡ cell_at ys n → ((p : Places) → Contains now p ↔ (Contains old p ⊎ ((p.first ≡ first) × (p.second < n) × (x ≡ cell_at ys p.second))))
    → (p : Places) → Contains (now ++ record { first = first; second = n } ∷ []) p ↔ (Contains old p ⊎ ((p.first ≡ first) × (p.second < n + 1) × (x ≡ cell_at ys p.second)))
places_more old now first x ys n same h p =
    let new : Places = record { first = first; second = n } in (
      λ has.
          ⊎_elim
          (λ (before : Contains now p).
          ⊎_elim
          (λ (o : Contains old p). inl o)
          (λ (o : (p.first ≡ first) × (p.second < n) × (x ≡ cell_at ys p.second)). let l = o.1 in inr (o.0, omega arith, o.2))
          ((h p).0 before))
          (λ (e : new ≡ p). inr (ap (λ (p : Places). p.first) (sym e), (let s = ap (λ (p : Places). p.second) e in omega arith), same ∙ ap (λ (p : Places). cell_at ys p.second) e))
          (Contains-push_cases now new p has),
      λ f.
          ⊎_elim
          (λ (o : Contains old p). Contains-append_left now (new ∷ []) p ((h p).1 (inl o)))
          (λ (o : (p.first ≡ first) × (p.second < n + 1) × (x ≡ cell_at ys p.second)).
          let l = o.1 in
          ⊎_elim
          (λ (lt : p.second < n). Contains-append_left now (new ∷ []) p ((h p).1 (inr (o.0, lt, o.2))))
          (λ (le : n ≤ p.second).
          let e : n ≡ p.second = omega arith in
          let i : new ≡ p = ap (λ (f : ℕ). places_at f n) (sym o.0) ∙ ap (λ (k : ℕ). places_at p.first k) e in
          subst (Contains (now ++ new ∷ [])) i (Contains-push now new))
          (cases_lt p.second n))
          f,
    )

pub places_pushed : (old now new : List Places) (first : ℕ) (x : Sym) (ys : List Sym) (n : ℕ) → new ≡ now ++ record { first = first; second = n } ∷ [] → x ≡ cell_at ys n → ((p : Places) → Contains now p ↔ (Contains old p ⊎ ((p.first ≡ first) × (p.second < n) × (x ≡ cell_at ys p.second))))
    → (p : Places) → Contains new p ↔ (Contains old p ⊎ ((p.first ≡ first) × (p.second < n + 1) × (x ≡ cell_at ys p.second)))
places_pushed old now new first x ys n is same h =
    subst (λ (ps : List Places). (p : Places) → Contains ps p ↔ (Contains old p ⊎ ((p.first ≡ first) × (p.second < n + 1) × (x ≡ cell_at ys p.second)))) (sym is) (places_more old now first x ys n same h)

pub places_same : (old now : List Places) (first : ℕ) (x : Sym) (ys : List Sym) (n : ℕ) → (x ≡ cell_at ys n → ⊥) → ((p : Places) → Contains now p ↔ (Contains old p ⊎ ((p.first ≡ first) × (p.second < n) × (x ≡ cell_at ys p.second))))
    → (p : Places) → Contains now p ↔ (Contains old p ⊎ ((p.first ≡ first) × (p.second < n + 1) × (x ≡ cell_at ys p.second)))
places_same old now first x ys n other h p = (
  λ has.
      ⊎_elim
      (λ (o : Contains old p). inl o)
      (λ (o : (p.first ≡ first) × (p.second < n) × (x ≡ cell_at ys p.second)). let l = o.1 in inr (o.0, omega arith, o.2))
      ((h p).0 has),
  λ f.
      ⊎_elim
      (λ (o : Contains old p). (h p).1 (inl o))
      (λ (o : (p.first ≡ first) × (p.second < n + 1) × (x ≡ cell_at ys p.second)).
      let l = o.1 in
      ⊎_elim
      (λ (lt : p.second < n). (h p).1 (inr (o.0, lt, o.2)))
      (λ (le : n ≤ p.second). let e : p.second ≡ n = omega arith in absurd (other (o.2 ∙ ap (cell_at ys) e)))
      (cases_lt p.second n))
      f,
)

pub places_kept : (old now new : List Places) (first : ℕ) (x : Sym) (ys : List Sym) (n : ℕ) → new ≡ now → (x ≡ cell_at ys n → ⊥) → ((p : Places) → Contains now p ↔ (Contains old p ⊎ ((p.first ≡ first) × (p.second < n) × (x ≡ cell_at ys p.second))))
    → (p : Places) → Contains new p ↔ (Contains old p ⊎ ((p.first ≡ first) × (p.second < n + 1) × (x ≡ cell_at ys p.second)))
places_kept old now new first x ys n is other h =
    subst (λ (ps : List Places). (p : Places) → Contains ps p ↔ (Contains old p ⊎ ((p.first ≡ first) × (p.second < n + 1) × (x ≡ cell_at ys p.second)))) (sym is) (places_same old now first x ys n other h)

-- the places of one symbol more
pub shared_more : (xs ys : List Sym) (old now : List Places) (n : ℕ) (x : Sym) → x ≡ cell_at xs n → ((p : Places) → Contains old p ↔ ((p.first < n) × (p.second < length ys) × (cell_at xs p.first ≡ cell_at ys p.second)))
    → ((p : Places) → Contains now p ↔ (Contains old p ⊎ ((p.first ≡ n) × (p.second < length ys) × (x ≡ cell_at ys p.second))))
    → (p : Places) → Contains now p ↔ ((p.first < n + 1) × (p.second < length ys) × (cell_at xs p.first ≡ cell_at ys p.second))
shared_more xs ys old now n x is before h p = (
  λ has.
      ⊎_elim
      (λ (o : Contains old p). let b = (before p).0 o in let l = b.0 in (omega arith, b.1, b.2))
      (λ (o : (p.first ≡ n) × (p.second < length ys) × (x ≡ cell_at ys p.second)). let e = o.0 in (omega arith, o.1, ap (cell_at xs) e ∙ sym is ∙ o.2))
      ((h p).0 has),
  λ f.
      let l = f.0 in
      ⊎_elim
      (λ (lt : p.first < n). (h p).1 (inl ((before p).1 (lt, f.1, f.2))))
      (λ (le : n ≤ p.first). let e : p.first ≡ n = omega arith in (h p).1 (inr (e, f.1, is ∙ ap (cell_at xs) (sym e) ∙ f.2)))
      (cases_lt p.first n),
)

-- ---- sets of rows

pub none_agree : (places : List Places) (us vs : List Sym) → (length places == 0) ≡ true → AgreeInPlaces places us vs
none_agree places us vs e k d h = absurd (let z : length places ≡ 0 = grind (arith, nat_tests, e) in omega arith)

-- ---- rows as they are read

pub goes_to : (t : Tab) (q i : ℕ) (head row target : List Sym) → head ≡ t.head → row ≡ row_of t q → target ≡ row_of t i → Goes head row target → Goes t.head (row_of t q) (row_of t i)
goes_to t q i head row target eh er et g = rw (sym eh, sym er, sym et) g

pub goes_from : (t : Tab) (q i : ℕ) (head row target : List Sym) → head ≡ t.head → row ≡ row_of t q → target ≡ row_of t i → Goes t.head (row_of t q) (row_of t i) → Goes head row target
goes_from t q i head row target eh er et g = rw (eh, er, et) g

pub shared_by : (xs ys xs' ys' : List Sym) (places : List Places) → xs' ≡ xs → ys' ≡ ys → AreShared xs' ys' places → AreShared xs ys places
shared_by xs ys xs' ys' places ex ey h = subst (λ xs. AreShared xs ys places) ex (subst (λ ys. AreShared xs' ys places) ey h)

pub told_by : (t : Tab) (m s j q set : ℕ) (target : List Sym) (places : List Places) → AreShared (row_of t s) (row_of t q) places → target ≡ row_of t j → IsSetOf t m (λ i. AgreeInPlaces places target (row_of t i)) set → IsTold t m s j q set
told_by t m s j q set target places shared et h i = (
  λ one. let r = (h i).0 one in (r.0, r.1, at_agree (row_of t s) (row_of t j) (row_of t q) (row_of t i) places shared (subst (λ us. AgreeInPlaces places us (row_of t i)) et r.2)),
  λ a. (h i).1 (a.0, a.1, subst (λ us. AgreeInPlaces places us (row_of t i)) (sym et) (agree_at (row_of t s) (row_of t j) (row_of t q) (row_of t i) places shared a.2)),
)

pub shared_as : (t : Tab) (s q : ℕ) (lists : List (List Places)) (places got : List Places) → got ≡ get_or lists q got → places ≡ got → length lists ≡ length t.rows → q < length t.rows → AreShared (row_of t s) (row_of t q) (get_or lists q []) → AreShared (row_of t s) (row_of t q) places
shared_as t s q lists places got is same len h shared =
    subst (AreShared (row_of t s) (row_of t q)) (sym (same ∙ is ∙ get_or_default lists q got [] (omega arith))) shared

pub width_at : (t : Tab) (q : ℕ) → IsValid t → q < length t.rows → length (row_of t q) ≡ t.width
width_at t q valid h = valid.widths q [] h
