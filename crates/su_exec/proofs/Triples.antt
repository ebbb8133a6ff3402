-- Three edges that are joined at once: by way of one of two, block by block.
use Rattle.std.proofs.Common.{◌≡◌, ℕ, ◌+◌, ◌<◌, ◌≤◌, ◌↔◌, ◌⊎◌, ◌++◌, Bool, true, false, List, [], ◌∷◌, length, get_or, Contains, refl, sym, ap, subst, ◌∙◌, inl, inr, ⊎_elim, append-nil, arith}
use Rattle.std.specs.Prelude.{map, cond}
use Rattle.std.proofs.lemmas.Bool.{cases_Bool, cases_lt}
use Rattle.std.proofs.lemmas.List.{get_or_default}
use Rattle.std.proofs.lemmas.List.Elements.{All-cons, All-nil, All-head, All-tail, Contains-push, Contains-push_cases, Contains-append_left}
use Rattle.su_exec.specs.inside.Bodies.{IsGiven}
use Rattle.su_exec.specs.inside.Edges.{HaveSameValues, Edge, Fits, FitsAll, Keeps, always, among, has}
use Rattle.su_reduce.specs.Sheets.{AreBelow, pick}
use Rattle.su_exec.specs.inside.Joins.{IsReal}
use Rattle.su_exec.specs.inside.Threes.{IsBlock}
use Rattle.su_exec.proofs.ProjectedJoins.{first_among, pick_map, second_among, two as pair}
use Rattle.su_exec.proofs.PartSteps.{agree_at, agree_from}
use Rattle.su_exec.proofs.Parts.{one_of}
use Rattle.su_exec.proofs.Splits.{Splits}

-- ---- two edges and their join

pub fits_by : (v w : ℕ → ℕ) (ks : List ℕ) (e : Edge ℕ) → HaveSameValues ks v w → ((k : ℕ) → has e.vars k ≡ true → has ks k ≡ true) → Fits w e → Fits v e
fits_by v w ks e same within fits = subst (λ r. Contains e.rows r) (agree_from w v e.vars (λ k h. sym (agree_at v w ks same k (within k h)))) fits

-- what fits two edges fits their join
pub fits_join : (a b g : Edge ℕ) (s : (ℕ → ℕ) → Bool) → ((v : ℕ → ℕ) → s v ≡ true) → Keeps g.vars (a ∷ b ∷ []) s (g ∷ []) always → (v : ℕ → ℕ) → Fits v a → Fits v b → Fits v g
fits_join a b g s all keeps v x y =
    let w = keeps.0 v (pair v a b x y) (all v) in
    fits_by v w.valuation g.vars g w.same (λ k h. h) (All-head (λ e. Fits w.valuation e) g [] w.fits)

-- ---- the natural join

pub natural_same :
    (a b g : Edge ℕ) (t : (ℕ → ℕ) → Bool) → ((v : ℕ → ℕ) → t v ≡ true) → Keeps g.vars (a ∷ b ∷ []) t (g ∷ []) always
    → ((k : ℕ) → among (a ∷ b ∷ []) k ≡ true → has g.vars k ≡ true) → (v : ℕ → ℕ) → (Fits v a × Fits v b) ↔ Fits v g
natural_same a b g t all join within v = (
  λ h. fits_join a b g t all join v h.0 h.1,
  λ h.
      let w = join.1 v (All-cons (λ e. Fits v e) g [] h (All-nil (λ e. Fits v e))) refl in
      let P : Edge ℕ → Type 0 = λ e. Fits w.valuation e in (
        fits_by v w.valuation g.vars a w.same (λ k m. within k (first_among a b k m)) (All-head P a (b ∷ []) w.fits),
        fits_by v w.valuation g.vars b w.same (λ k m. within k (second_among a b k m)) (All-head P b [] (All-tail P a (b ∷ []) w.fits)),
      ),
)

-- ---- three edges

pub one_of_three : (a b c : Edge ℕ) (k : ℕ) → among (a ∷ b ∷ c ∷ []) k ≡ true → (has a.vars k ≡ true) ⊎ ((has b.vars k ≡ true) ⊎ (has c.vars k ≡ true))
one_of_three a b c k h =
    ⊎_elim
    (λ (t : has a.vars k ≡ true). inl t)
    (λ (t : has a.vars k ≡ false). let rest : among (b ∷ c ∷ []) k ≡ true = grind (arith, h, t) in inr (one_of b c k rest))
    (cases_Bool (has a.vars k))

pub first_of_three : (a b c : Edge ℕ) (k : ℕ) → has a.vars k ≡ true → among (a ∷ b ∷ c ∷ []) k ≡ true
first_of_three a b c k h = grind (arith, h)

later_of_three : (a b c : Edge ℕ) (k : ℕ) → among (b ∷ c ∷ []) k ≡ true → among (a ∷ b ∷ c ∷ []) k ≡ true
later_of_three a b c k h =
    ⊎_elim (λ (t : has a.vars k ≡ true). first_of_three a b c k t) (λ (t : has a.vars k ≡ false). grind (arith, h, t)) (cases_Bool (has a.vars k))

pub second_of_three : (a b c : Edge ℕ) (k : ℕ) → has b.vars k ≡ true → among (a ∷ b ∷ c ∷ []) k ≡ true
second_of_three a b c k h = later_of_three a b c k (first_among b c k h)

pub third_of_three : (a b c : Edge ℕ) (k : ℕ) → has c.vars k ≡ true → among (a ∷ b ∷ c ∷ []) k ≡ true
third_of_three a b c k h = later_of_three a b c k (second_among b c k h)

three : (v : ℕ → ℕ) (a b c : Edge ℕ) → Fits v a → Fits v b → Fits v c → FitsAll v (a ∷ b ∷ c ∷ [])
three v a b c x y z = All-cons (λ e. Fits v e) a (b ∷ c ∷ []) x (pair v b c y z)

first_fits : (v : ℕ → ℕ) (a b c : Edge ℕ) → FitsAll v (a ∷ b ∷ c ∷ []) → Fits v a
first_fits v a b c f = All-head (λ e. Fits v e) a (b ∷ c ∷ []) f

second_fits : (v : ℕ → ℕ) (a b c : Edge ℕ) → FitsAll v (a ∷ b ∷ c ∷ []) → Fits v b
second_fits v a b c f = All-head (λ e. Fits v e) b (c ∷ []) (All-tail (λ e. Fits v e) a (b ∷ c ∷ []) f)

third_fits : (v : ℕ → ℕ) (a b c : Edge ℕ) → FitsAll v (a ∷ b ∷ c ∷ []) → Fits v c
third_fits v a b c f = All-head (λ e. Fits v e) c [] (All-tail (λ e. Fits v e) b (c ∷ []) (All-tail (λ e. Fits v e) a (b ∷ c ∷ []) f))

-- the second and the third change places
pub turned_given : (vars : List ℕ) (a b c : Edge ℕ) (r : List ℕ) → IsGiven vars (a ∷ b ∷ c ∷ []) always r → IsGiven vars (a ∷ c ∷ b ∷ []) always r
turned_given vars a b c r g =
    let v = g.valuation in
    record { valuation = v; fits = three v a c b (first_fits v a b c g.fits) (third_fits v a b c g.fits) (second_fits v a b c g.fits); passes = refl; gives = g.gives }

pub turned_among : (a b c : Edge ℕ) (k : ℕ) → among (a ∷ b ∷ c ∷ []) k ≡ true → among (a ∷ c ∷ b ∷ []) k ≡ true
turned_among a b c k h =
    ⊎_elim
    (λ (x : has a.vars k ≡ true). first_of_three a c b k x)
    (λ (x : (has b.vars k ≡ true) ⊎ (has c.vars k ≡ true)).
    ⊎_elim (λ (y : has b.vars k ≡ true). third_of_three a c b k y) (λ (y : has c.vars k ≡ true). second_of_three a c b k y) x)
    (one_of_three a b c k h)

-- an edge without rows gives nothing
pub none_given : (vars : List ℕ) (a b c : Edge ℕ) (r : List ℕ) → length a.rows ≡ 0 → IsGiven vars (a ∷ b ∷ c ∷ []) always r → ⊥
none_given vars a b c r none g = let f = first_fits g.valuation a b c g.fits in let l = f.1 in omega arith

-- two are joined, and then the third
module _ (a b c pairs closed : Edge ℕ) (vars : List ℕ) (t : (ℕ → ℕ) → Bool) (all : (v : ℕ → ℕ) → t v ≡ true) (natural : (v : ℕ → ℕ) → (Fits v a × Fits v b) ↔ Fits v pairs)
    (keeps : Keeps closed.vars (pairs ∷ c ∷ []) t (closed ∷ []) always) (within : (k : ℕ) → has vars k ≡ true → has closed.vars k ≡ true) where
  pub three_only : (r : List ℕ) → IsGiven vars (closed ∷ []) always r → IsGiven vars (a ∷ b ∷ c ∷ []) always r
  three_only r g =
      let w = keeps.1 g.valuation g.fits refl in
      let P : Edge ℕ → Type 0 = λ e. Fits w.valuation e in
      let both = (natural w.valuation).1 (All-head P pairs (c ∷ []) w.fits) in
      record {
        valuation = w.valuation;
        fits = three w.valuation a b c both.0 both.1 (All-head P c [] (All-tail P pairs (c ∷ []) w.fits));
        passes = refl;
        gives = agree_from w.valuation g.valuation vars (λ k h. sym (agree_at g.valuation w.valuation closed.vars w.same k (within k h))) ∙ g.gives;
      }

  pub three_all : (r : List ℕ) → IsGiven vars (a ∷ b ∷ c ∷ []) always r → IsGiven vars (closed ∷ []) always r
  three_all r g =
      let v = g.valuation in
      let p = (natural v).0 (first_fits v a b c g.fits, second_fits v a b c g.fits) in
      let w = keeps.0 v (pair v pairs c p (third_fits v a b c g.fits)) (all v) in
      record {
        valuation = w.valuation;
        fits = w.fits;
        passes = refl;
        gives = agree_from w.valuation v vars (λ k h. sym (agree_at v w.valuation closed.vars w.same k (within k h))) ∙ g.gives;
      }

pub among_pairs : (a b c pairs : Edge ℕ) → ((k : ℕ) → among (a ∷ b ∷ []) k ≡ true → has pairs.vars k ≡ true) → (k : ℕ) → among (a ∷ b ∷ c ∷ []) k ≡ true → among (pairs ∷ c ∷ []) k ≡ true
among_pairs a b c pairs more k h =
    ⊎_elim
    (λ (x : has a.vars k ≡ true). first_among pairs c k (more k (first_among a b k x)))
    (λ (x : (has b.vars k ≡ true) ⊎ (has c.vars k ≡ true)).
    ⊎_elim (λ (y : has b.vars k ≡ true). first_among pairs c k (more k (second_among a b k y))) (λ (y : has c.vars k ≡ true). second_among pairs c k y) x)
    (one_of_three a b c k h)

-- ---- what one edge gives

pub row_given : (g : Edge ℕ) (places vars : List ℕ) → AreBelow places (length g.vars) → pick places g.vars ≡ vars → IsReal g → (i : ℕ) → i < length g.rows → IsGiven vars (g ∷ []) always (pick places (get_or g.rows i []))
row_given g places vars below is real i l =
    let x = real i [] l in
    let v = x.0 in
    record {
      valuation = v;
      fits = All-cons (λ e. Fits v e) g [] (i, l, get_or_default g.rows i (map v g.vars) [] l ∙ sym x.1) (All-nil (λ e. Fits v e));
      passes = refl;
      gives = ap (map v) (sym is) ∙ sym (pick_map v places g.vars below) ∙ ap (pick places) x.1;
    }

-- a row of the edge from which the values are picked
pub record IsPicked (g : Edge ℕ) (places r : List ℕ) : Type 0 where
  pub row : ℕ
  pub low : row < length g.rows
  pub gives : pick places (get_or g.rows row []) ≡ r

pub given_row : (g : Edge ℕ) (places vars r : List ℕ) → AreBelow places (length g.vars) → pick places g.vars ≡ vars → IsGiven vars (g ∷ []) always r → IsPicked g places r
given_row g places vars r below is x =
    let v = x.valuation in
    let f = All-head (λ e. Fits v e) g [] x.fits in
    record {
      row = f.0;
      low = f.1;
      gives = ap (pick places) (get_or_default g.rows f.0 [] (map v g.vars) f.1 ∙ f.2) ∙ pick_map v places g.vars below ∙ ap (map v) is ∙ x.gives;
    }

-- ---- blocks

pub block_all :
    (e : Edge ℕ) (blocks : List ℕ) (n i : ℕ) (rows : List (List ℕ)) (row : List ℕ) (here : Bool) → row ≡ get_or e.rows i [] → (get_or blocks i 0 ≡ n → here ≡ true)
    → ((j : ℕ) → j < i → get_or blocks j 0 ≡ n → Contains rows (get_or e.rows j [])) → (j : ℕ) → j < i + 1 → get_or blocks j 0 ≡ n → Contains (rows ++ cond here (row ∷ []) []) (get_or e.rows j [])
block_all e blocks n i rows row here is in_block old j l at =
    ⊎_elim
    (λ (b : j < i). Contains-append_left rows (cond here (row ∷ []) []) (get_or e.rows j []) (old j b at))
    (λ (b : i ≤ j).
    let same : i ≡ j = omega arith in
    let yes : here ≡ true = in_block (ap (λ j. get_or blocks j 0) same ∙ at) in
    let row_is : row ≡ get_or e.rows j [] = is ∙ ap (λ j. get_or e.rows j []) same in
    subst (λ b. Contains (rows ++ cond b (row ∷ []) []) (get_or e.rows j [])) (sym yes) (subst (λ r. Contains (rows ++ row ∷ []) r) row_is (Contains-push rows row)))
    (cases_lt j i)

pub block_only :
    (e : Edge ℕ) (i : ℕ) (rows : List (List ℕ)) (row : List ℕ) (here : Bool) → i < length e.rows → row ≡ get_or e.rows i [] → ((r : List ℕ) → Contains rows r → Contains e.rows r) → (r : List ℕ) → Contains (rows ++ cond here (row ∷ []) []) r → Contains e.rows r
block_only e i rows row true l is old r h =
    ⊎_elim (λ (x : Contains rows r). old r x) (λ (x : row ≡ r). (i, l, get_or_default e.rows i r [] l ∙ sym is ∙ x)) (Contains-push_cases rows row r h)
block_only e i rows row false l is old r h = old r (subst (λ xs. Contains xs r) (append-nil rows) h)

module _ (a b c part : Edge ℕ) (blocks : List ℕ) (n : ℕ) (vars : List ℕ) (block : IsBlock a blocks n part) where
  pub block_given : (r : List ℕ) → IsGiven vars (part ∷ b ∷ c ∷ []) always r → IsGiven vars (a ∷ b ∷ c ∷ []) always r
  block_given r g =
      let v = g.valuation in
      let here : Contains part.rows (map v a.vars) = subst (λ ks. Contains part.rows (map v ks)) block.vars (first_fits v part b c g.fits) in
      record { valuation = v; fits = three v a b c (block.only (map v a.vars) here) (second_fits v part b c g.fits) (third_fits v part b c g.fits); passes = refl; gives = g.gives }

  pub given_block : (v : ℕ → ℕ) (i : ℕ) → FitsAll v (a ∷ b ∷ c ∷ []) → i < length a.rows → get_or a.rows i [] ≡ map v a.vars → get_or blocks i 0 ≡ n → IsGiven vars (part ∷ b ∷ c ∷ []) always (map v vars)
  given_block v i f l is at =
      let here : Contains part.rows (map v a.vars) = subst (Contains part.rows) is (block.all i l at) in
      record { valuation = v; fits = three v part b c (subst (λ ks. Contains part.rows (map v ks)) (sym block.vars) here) (second_fits v a b c f) (third_fits v a b c f); passes = refl; gives = refl }

  pub block_among : (k : ℕ) → among (a ∷ b ∷ c ∷ []) k ≡ true → among (part ∷ b ∷ c ∷ []) k ≡ true
  block_among k h =
      ⊎_elim
      (λ (x : has a.vars k ≡ true). first_of_three part b c k (ap (λ ks. has ks k) block.vars ∙ x))
      (λ (x : (has b.vars k ≡ true) ⊎ (has c.vars k ≡ true)).
      ⊎_elim (λ (y : has b.vars k ≡ true). second_of_three part b c k y) (λ (y : has c.vars k ≡ true). third_of_three part b c k y) x)
      (one_of_three a b c k h)

-- the row that a valuation gives the first edge
pub record StandsAt (a : Edge ℕ) (v : ℕ → ℕ) : Type 0 where
  pub row : ℕ
  pub low : row < length a.rows
  pub is : get_or a.rows row [] ≡ map v a.vars

pub stands_at : (a b c : Edge ℕ) (v : ℕ → ℕ) → FitsAll v (a ∷ b ∷ c ∷ []) → StandsAt a v
stands_at a b c v f = let x = first_fits v a b c f in record { row = x.0; low = x.1; is = get_or_default a.rows x.0 [] (map v a.vars) x.1 ∙ x.2 }

-- the rows of all blocks
pub three_keeps :
    (a b c g : Edge ℕ) → ((r : List ℕ) → Contains g.rows r → IsGiven g.vars (a ∷ b ∷ c ∷ []) always r) → ((v : ℕ → ℕ) → FitsAll v (a ∷ b ∷ c ∷ []) → Contains g.rows (map v g.vars)) → Keeps g.vars (a ∷ b ∷ c ∷ []) always (g ∷ []) always
three_keeps a b c g only all = (
  λ v f p. record { valuation = v; fits = All-cons (λ e. Fits v e) g [] (all v f) (All-nil (λ e. Fits v e)); passes = refl; same = refl },
  λ v f p.
      let x = only (map v g.vars) (All-head (λ e. Fits v e) g [] f) in
      record { valuation = x.valuation; fits = x.fits; passes = refl; same = sym x.gives },
)

pub real_three : (a b c g : Edge ℕ) → ((r : List ℕ) → Contains g.rows r → IsGiven g.vars (a ∷ b ∷ c ∷ []) always r) → IsReal g
real_three a b c g only k d l = let r = get_or g.rows k d in let x = only r (k, l, get_or_default g.rows k r d l) in (x.valuation, x.gives)

-- ---- three edges are taken out of a body

pub splits_more : (es fs rs gs : List (Edge ℕ)) (a : Edge ℕ) → Splits es (a ∷ []) fs → Splits fs gs rs → Splits es (a ∷ gs) rs
splits_more es fs rs gs a first rest v =
    let P : Edge ℕ → Type 0 = λ e. Fits v e in (
      λ all.
          let x = (first v).0 all in
          let y = (rest v).0 x.1 in
          (All-cons P a gs (All-head P a [] x.0) y.0, y.1),
      λ parts. (first v).1 (All-cons P a [] (All-head P a gs parts.0) (All-nil P), (rest v).1 (All-tail P a gs parts.0, parts.1)),
    )
