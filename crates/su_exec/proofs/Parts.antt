-- Two edges are taken out of a body, and their join is put in.
use Rattle.std.proofs.Common.{◌≡◌, ℕ, ◌+◌, ◌-◌, ◌<◌, ◌≤◌, ◌⊎◌, ◌++◌, Bool, true, false, List, [], ◌∷◌, length, get_or, refl, sym, subst, ◌∙◌, inl, inr, ⊎_elim, arith}
use Rattle.std.specs.List.{remove, All}
use Rattle.std.proofs.lemmas.Bool.{cases_Bool, cases_eq, cases_lt, true≢false}
use Rattle.std.proofs.lemmas.List.{get_or_default, take_at, drop_at}
use Rattle.std.specs.Prelude.{nat_eq, ◌&&◌}
use Rattle.std.proofs.lemmas.List.Elements.{All-append, All-cons, All-nil, All-head, All-tail, All-take, All-drop}
use Rattle.std.proofs.lemmas.List.Edits.{length-remove, get_or-remove_below, get_or-remove_above}
use Rattle.std.proofs.lemmas.List.Folds.{list_any-append, list_any_at}
use Rattle.su_exec.specs.inside.Edges.{Edge, Fits, has, among, always, HaveSameValues, Keeps}
use Rattle.su_reduce.specs.Sheets.{pick, AreBelow}
use Rattle.su_exec.proofs.PartSteps.{step_on_part}
use Rattle.su_exec.proofs.Splits.{Splits, IsWithin, IsTestOf}

pub All_removed : {X : Type 0} (P : X → Type 0) (xs : List X) (i : ℕ) → i < length xs → All P xs → All P (remove xs i)
All_removed P xs i h all k d l =
    let n = length-remove xs i h in
    ⊎_elim
    (λ (b : k < i). subst P (sym (get_or-remove_below xs i d k b h)) (all k d (omega arith)))
    (λ (b : i ≤ k). subst P (sym (get_or-remove_above xs i d k b h)) (all (k + 1) d (omega arith)))
    (cases_lt k i)

pub All_put_back : {X : Type 0} (P : X → Type 0) (xs : List X) (i : ℕ) → i < length xs → All P (remove xs i) → ((d : X) → P (get_or xs i d)) → All P xs
All_put_back P xs i h all here k d l =
    let n = length-remove xs i h in
    ⊎_elim
    (λ (b : k < i). subst P (get_or-remove_below xs i d k b h) (all k d (omega arith)))
    (λ (b : i ≤ k).
    ⊎_elim
    (λ (e : k ≡ i). subst (λ k. P (get_or xs k d)) (sym e) (here d))
    (λ (e : k ≡ i → ⊥).
    let f : k - 1 + 1 ≡ k = omega arith in
    subst (λ k. P (get_or xs k d)) f (subst P (get_or-remove_above xs i d (k - 1) (omega arith) h) (all (k - 1) d (omega arith))))
    (cases_eq k i))
    (cases_lt k i)

-- the body without two edges, and these
pub taken_out : (es : List (Edge ℕ)) (i j : ℕ) (a b : Edge ℕ) (fs rs : List (Edge ℕ)) → j < length es → b ≡ get_or es j b → fs ≡ remove es j → i < length fs → a ≡ get_or fs i a → rs ≡ remove fs i → Splits es (a ∷ b ∷ []) rs
taken_out es i j a b fs rs jl be fe il ae re v =
    let P : Edge ℕ → Type 0 = λ e. Fits v e in (
      λ all.
          let f : All P fs = subst (All P) (sym fe) (All_removed P es j jl all) in
          let r : All P rs = subst (All P) (sym re) (All_removed P fs i il f) in
          let pa : P a = subst P (sym ae) (f i a il) in
          let pb : P b = subst P (sym be) (all j b jl) in
          (All-cons P a (b ∷ []) pa (All-cons P b [] pb (All-nil P)), r),
      λ parts.
          let pa : P a = All-head P a (b ∷ []) parts.0 in
          let pb : P b = All-head P b [] (All-tail P a (b ∷ []) parts.0) in
          let f : All P fs = All_put_back P fs i il (subst (All P) re parts.1) (λ d. subst P (ae ∙ get_or_default fs i a d il) pa) in
          All_put_back P es j jl (subst (All P) fe f) (λ d. subst P (be ∙ get_or_default es j b d jl) pb),
    )

pub put_in : (rs : List (Edge ℕ)) (g : Edge ℕ) → Splits (rs ++ g ∷ []) (g ∷ []) rs
put_in rs g v =
    let P : Edge ℕ → Type 0 = λ e. Fits v e in (
      λ all. (subst (All P) (drop_at rs (g ∷ []) (length rs) refl) (All-drop P (length rs) (rs ++ g ∷ []) all), subst (All P) (take_at rs (g ∷ []) (length rs) refl) (All-take P (length rs) (rs ++ g ∷ []) all)),
      λ parts. All-append P rs (g ∷ []) parts.1 parts.0,
    )

pub alone : (g : Edge ℕ) → IsWithin (g ∷ []) g.vars
alone g k h = ⊎_elim (λ (e : has g.vars k ≡ true). e) (λ (e : has g.vars k ≡ false). grind (arith, h, e)) (cases_Bool (has g.vars k))

-- an edge that keeps what is needed takes the place of a part of the body
pub put_step :
    (needed us : List ℕ) (es gs rs : List (Edge ℕ)) (g : Edge ℕ) (st s u : (ℕ → ℕ) → Bool)
    → Splits es gs rs → ((v : ℕ → ℕ) → st v ≡ (s v && u v)) → Keeps g.vars gs s (g ∷ []) always → IsTestOf s gs → ((v w : ℕ → ℕ) → HaveSameValues us v w → u v ≡ u w)
    → ((k : ℕ) → among gs k ≡ true → among rs k ≡ true → has g.vars k ≡ true) → ((k : ℕ) → among gs k ≡ true → has needed k ≡ true → has g.vars k ≡ true) → ((k : ℕ) → among gs k ≡ true → has us k ≡ true → has g.vars k ≡ true)
    → Keeps needed es st (rs ++ g ∷ []) u
put_step needed us es gs rs g st s u splits both keeps own other in_rest in_needed in_test =
    step_on_part needed g.vars us es (rs ++ g ∷ []) gs (g ∷ []) rs st s u splits (put_in rs g) both keeps (alone g) (record { in_rest = in_rest; in_needed = in_needed }) own other in_test

-- what is wanted of two edges stands in their join
pub wanted_out : (xs ys los ros wanted : List ℕ) → ((k : ℕ) → has xs k ≡ true → has wanted k ≡ true → has los k ≡ true) → ((k : ℕ) → has ys k ≡ true → has xs k ≡ false → has wanted k ≡ true → has ros k ≡ true)
    → (k : ℕ) → (has xs k ≡ true) ⊎ (has ys k ≡ true) → has wanted k ≡ true → has (los ++ ros) k ≡ true
wanted_out xs ys los ros wanted left right k where_is want =
    let e = list_any-append (λ x. nat_eq x k) los ros in
    ⊎_elim
    (λ (t : has xs k ≡ true). let f = left k t want in grind (arith, e, f))
    (λ (t : has xs k ≡ false).
    ⊎_elim
    (λ (u : has xs k ≡ true). absurd (true≢false (sym u ∙ t)))
    (λ (u : has ys k ≡ true). let f = right k u t want in grind (arith, e, f))
    where_is)
    (cases_Bool (has xs k))

pub one_of : (a b : Edge ℕ) (k : ℕ) → among (a ∷ b ∷ []) k ≡ true → (has a.vars k ≡ true) ⊎ (has b.vars k ≡ true)
one_of a b k h =
    ⊎_elim
    (λ (t : has a.vars k ≡ true). inl t)
    (λ (t : has a.vars k ≡ false). inr (alone b k (grind (arith, h, t))))
    (cases_Bool (has a.vars k))

-- ---- one edge loses the columns that nothing needs

pub one_out : (es : List (Edge ℕ)) (i : ℕ) (a : Edge ℕ) (rs : List (Edge ℕ)) → i < length es → a ≡ get_or es i a → rs ≡ remove es i → Splits es (a ∷ []) rs
one_out es i a rs il ae re v =
    let P : Edge ℕ → Type 0 = λ e. Fits v e in (
      λ all. (All-cons P a [] (subst P (sym ae) (all i a il)) (All-nil P), subst (All P) (sym re) (All_removed P es i il all)),
      λ parts. All_put_back P es i il (subst (All P) re parts.1) (λ d. subst P (ae ∙ get_or_default es i a d il) (All-head P a [] parts.0)),
    )

-- a self join of one edge keeps what it keeps of two
pub shrunk : (a g : Edge ℕ) (s : (ℕ → ℕ) → Bool) → Keeps g.vars (a ∷ a ∷ []) s (g ∷ []) always → Keeps g.vars (a ∷ []) s (g ∷ []) always
shrunk a g s keeps = (
  λ v f p. keeps.0 v (let x = All-head (λ e. Fits v e) a [] f in All-cons (λ e. Fits v e) a (a ∷ []) x f) p,
  λ v f p. let w = keeps.1 v f p in record { valuation = w.valuation; fits = All-tail (λ e. Fits w.valuation e) a (a ∷ []) w.fits; passes = w.passes; same = w.same },
)

pub twice : (a : Edge ℕ) (k : ℕ) → among (a ∷ []) k ≡ true → among (a ∷ a ∷ []) k ≡ true
twice a k h = let e = alone a k h in grind (arith, e)

-- a test of an edge with itself is one of it alone
pub test_once : (a : Edge ℕ) (s : (ℕ → ℕ) → Bool) → IsTestOf s (a ∷ a ∷ []) → IsTestOf s (a ∷ [])
test_once a s own v w same = own v w (λ k h. same k (grind (arith, h)))

-- what is picked from variables is one of them
pub picked_in : (ps xs : List ℕ) (k : ℕ) → AreBelow ps (length xs) → has (pick ps xs) k ≡ true → has xs k ≡ true
picked_in [] xs k below h = absurd (true≢false (sym h))
picked_in (p ∷ ps) xs k below h =
    let low : p < length xs = All-head (λ p. p < length xs) p ps below in
    ⊎_elim
    (λ (t : nat_eq (get_or xs p 0) k ≡ true). list_any_at (λ x. nat_eq x k) xs p 0 low t)
    (λ (t : nat_eq (get_or xs p 0) k ≡ false).
    let rest : has (pick ps xs) k ≡ true = grind (arith, h, t) in
    picked_in ps xs k (All-tail (λ p. p < length xs) p ps below) rest)
    (cases_Bool (nat_eq (get_or xs p 0) k))
