-- A join with projection keeps what its two edges say of the columns that are left.
use Rattle.std.proofs.Common.{◌≡◌, ℕ, ◌<◌, ◌++◌, Bool, true, false, List, [], ◌∷◌, length, get_or, Contains, refl, sym, ap, ◌∙◌, ⊎_elim, arith}
use Rattle.std.specs.Prelude.{map, cond}
use Rattle.std.proofs.lemmas.Bool.{cases_Bool}
use Rattle.std.proofs.lemmas.List.{get_or-map, get_or_default, map-append}
use Rattle.std.proofs.lemmas.List.Elements.{All-head, All-tail, All-cons, All-nil}
use Rattle.su_exec.specs.inside.Edges.{Edge, Fits, FitsAll, has, among, always, Reaches, Keeps}
use Rattle.su_reduce.specs.Sheets.{pick, AreBelow}
use Rattle.su_exec.specs.inside.Joins.{Columns, Joined, IsReal, FitColumns, out_vars, test_at}
use Rattle.su_exec.proofs.PartSteps.{agree_from, agree_at}
use Rattle.su_exec.proofs.Splits.{IsTestOf}

pub pick_map : (v : ℕ → ℕ) (ps xs : List ℕ) → AreBelow ps (length xs) → pick ps (map v xs) ≡ map v (pick ps xs)
pick_map v [] xs h = refl
pick_map v (p ∷ ps) xs h =
    let e = get_or-map v xs p 0 0 (All-head (λ p. p < length xs) p ps h) in
    let i = pick_map v ps xs (All-tail (λ p. p < length xs) p ps h) in
    cc

-- the row at a place is what a valuation gives
real_at : (e : Edge ℕ) → IsReal e → (i : ℕ) → i < length e.rows → (v : ℕ → ℕ) × (map v e.vars ≡ get_or e.rows i [])
real_at e real i l = real i [] l

-- a on the variables of xs, b elsewhere
abbrev over : List ℕ → (ℕ → ℕ) → (ℕ → ℕ) → ℕ → ℕ
over xs a b k = cond (has xs k) (a k) (b k)

over_in : (xs : List ℕ) (a b : ℕ → ℕ) (k : ℕ) → has xs k ≡ true → over xs a b k ≡ a k
over_in xs a b k h = ap (λ t. cond t (a k) (b k)) h

over_same : (xs : List ℕ) (a b : ℕ → ℕ) (k : ℕ) → (has xs k ≡ true → a k ≡ b k) → over xs a b k ≡ b k
over_same xs a b k h =
    ⊎_elim
    (λ (e : has xs k ≡ true). over_in xs a b k e ∙ h e)
    (λ (e : has xs k ≡ false). ap (λ t. cond t (a k) (b k)) e)
    (cases_Bool (has xs k))

-- rows with one key have one valuation
pub record Both (xs ys r s : List ℕ) : Type 0 where
  pub valuation : ℕ → ℕ
  pub left : map valuation xs ≡ r
  pub right : map valuation ys ≡ s

both : (c : Columns) (xs ys r s : List ℕ) → FitColumns c xs ys → (a b : ℕ → ℕ) → map a xs ≡ r → map b ys ≡ s → pick c.left_key r ≡ pick c.right_key s → Both xs ys r s
both c xs ys r s fit a b ea eb keys =
    let w = over xs a b in
    let key = pick c.left_key xs in
    let left : map a key ≡ pick c.left_key r = sym (pick_map a c.left_key xs fit.left_key) ∙ ap (pick c.left_key) ea in
    let right : map b key ≡ pick c.right_key s = ap (map b) fit.same_key ∙ sym (pick_map b c.right_key ys fit.right_key) ∙ ap (pick c.right_key) eb in
    let same : map a key ≡ map b key = left ∙ keys ∙ sym right in
    record {
      valuation = w;
      left = agree_from w a xs (λ k h. over_in xs a b k h) ∙ ea;
      right = agree_from w b ys (λ k h. over_same xs a b k (λ g. agree_at a b key same k (fit.shared k g h))) ∙ eb;
    }

-- what a valuation gives the columns that are left
outs : (c : Columns) (xs ys : List ℕ) (v : ℕ → ℕ) → FitColumns c xs ys → pick c.left_out (map v xs) ++ pick c.right_out (map v ys) ≡ map v (out_vars c xs ys)
outs c xs ys v fit =
    let a = pick_map v c.left_out xs fit.left_out in
    let b = pick_map v c.right_out ys fit.right_out in
    let e = map-append v (pick c.left_out xs) (pick c.right_out ys) in
    cc

pub first_among : (a b : Edge ℕ) (k : ℕ) → has a.vars k ≡ true → among (a ∷ b ∷ []) k ≡ true
first_among a b k h = grind (arith, h)

pub second_among : (a b : Edge ℕ) (k : ℕ) → has b.vars k ≡ true → among (a ∷ b ∷ []) k ≡ true
second_among a b k h = grind (arith, h)

one : (v : ℕ → ℕ) (e : Edge ℕ) → Fits v e → FitsAll v (e ∷ [])
one v e h = All-cons (λ e. Fits v e) e [] h (All-nil (λ e. Fits v e))

pub two : (v : ℕ → ℕ) (a b : Edge ℕ) → Fits v a → Fits v b → FitsAll v (a ∷ b ∷ [])
two v a b g h = All-cons (λ e. Fits v e) a (b ∷ []) g (one v b h)

abbrev pub joined_edge : Columns → List ℕ → List ℕ → List (List ℕ) → Edge ℕ
joined_edge c xs ys rows = record { vars = out_vars c xs ys; rows = rows }

-- rows of a join, as an edge
module _ (a b : Edge ℕ) (c : Columns) (t : List ℕ → List ℕ → Bool) (rows : List (List ℕ)) (real_a : IsReal a) (real_b : IsReal b) (fit : FitColumns c a.vars b.vars) (only : (r : List ℕ) → Contains rows r → Joined a.rows b.rows c t r) where
  both_of : (r : List ℕ) (j : Joined a.rows b.rows c t r) → Both a.vars b.vars (get_or a.rows j.left []) (get_or b.rows j.right [])
  both_of r j =
      let x = real_at a real_a j.left j.left_in in
      let y = real_at b real_b j.right j.right_in in
      both c a.vars b.vars (get_or a.rows j.left []) (get_or b.rows j.right []) fit x.0 y.0 x.1 y.1 j.keys

  out_of : (r : List ℕ) (j : Joined a.rows b.rows c t r) → map (both_of r j).valuation (out_vars c a.vars b.vars) ≡ r
  out_of r j =
      let w = both_of r j in
      let e = outs c a.vars b.vars w.valuation fit in
      let l = w.left in
      let m = w.right in
      sym e ∙ ap (λ s. pick c.left_out s ++ pick c.right_out (map w.valuation b.vars)) l ∙ ap (λ s. pick c.left_out (get_or a.rows j.left []) ++ pick c.right_out s) m ∙ j.is

  pub real_join : IsReal (joined_edge c a.vars b.vars rows)
  real_join i d l =
      let r = get_or rows i d in
      let j = only r (i, l, get_or_default rows i r d l) in
      ((both_of r j).valuation, out_of r j)

  -- each row is what a valuation of both gives that passes the test
  pub given : (v : ℕ → ℕ) → Fits v (joined_edge c a.vars b.vars rows) → Reaches (out_vars c a.vars b.vars) v (a ∷ b ∷ []) (test_at t a.vars b.vars)
  given v g =
      let r = map v (out_vars c a.vars b.vars) in
      let j = only r g in
      let w = both_of r j in
      record {
        valuation = w.valuation;
        fits = two w.valuation a b ((j.left, j.left_in, get_or_default a.rows j.left (map w.valuation a.vars) [] j.left_in ∙ sym w.left)) ((j.right, j.right_in, get_or_default b.rows j.right (map w.valuation b.vars) [] j.right_in ∙ sym w.right));
        passes = ap (λ xs. t xs (map w.valuation b.vars)) w.left ∙ ap (λ ys. t (get_or a.rows j.left []) ys) w.right ∙ j.passes;
        same = sym (out_of r j);
      }

  -- the whole join keeps what the two say
  pub keeps_join : ((r : List ℕ) → Joined a.rows b.rows c t r → Contains rows r) → Keeps (out_vars c a.vars b.vars) (a ∷ b ∷ []) (test_at t a.vars b.vars) (joined_edge c a.vars b.vars rows ∷ []) always
  keeps_join all = (
    λ v f p.
        let r = map v (out_vars c a.vars b.vars) in
        let x = f 0 a (omega arith) in
        let y = f 1 a (omega arith) in
        let ex = get_or_default a.rows x.0 [] (map v a.vars) x.1 ∙ x.2 in
        let ey = get_or_default b.rows y.0 [] (map v b.vars) y.1 ∙ y.2 in
        let j : Joined a.rows b.rows c t r = record {
          left = x.0;
          right = y.0;
          left_in = x.1;
          right_in = y.1;
          keys = ap (pick c.left_key) ex ∙ pick_map v c.left_key a.vars fit.left_key ∙ ap (map v) fit.same_key ∙ sym (pick_map v c.right_key b.vars fit.right_key) ∙ sym (ap (pick c.right_key) ey);
          passes = ap (λ xs. t xs (get_or b.rows y.0 [])) ex ∙ ap (λ ys. t (map v a.vars) ys) ey ∙ p;
          is = let e = outs c a.vars b.vars v fit in cc;
        } in
        record { valuation = v; fits = one v (joined_edge c a.vars b.vars rows) (all r j); passes = refl; same = refl },
    λ v f p. given v (f 0 (joined_edge c a.vars b.vars rows) (omega arith)),
  )

-- the test of a pair is one of the two edges
pub is_test : (a b : Edge ℕ) (t : List ℕ → List ℕ → Bool) → IsTestOf (test_at t a.vars b.vars) (a ∷ b ∷ [])
is_test a b t v w same =
    let l = agree_from v w a.vars (λ k h. same k (first_among a b k h)) in
    let r = agree_from v w b.vars (λ k h. same k (second_among a b k h)) in
    ap (λ xs. t xs (map v b.vars)) l ∙ ap (λ ys. t (map w a.vars) ys) r
