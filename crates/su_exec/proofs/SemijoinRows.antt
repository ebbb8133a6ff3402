-- Semijoins: rows that have a partner, and what valuations say of them.
use Rattle.std.proofs.Common.{◌≡◌, ◌↔◌, ◌⊎◌, ◌++◌, ◌+◌, ℕ, zero, suc, ◌<◌, ◌≤◌, Bool, true, false, IsTrue, cond, List, [], ◌∷◌, length, get_or, Contains, refl, sym, ap, subst, ◌∙◌, ⊎_elim, inl, inr, true≢false, append-nil, arith}
use Rattle.std.specs.Prelude.{All, map, take, slice_index_or}
use Rattle.std.proofs.lemmas.Bool.{cases_eq}
use Rattle.std.proofs.lemmas.List.{get_or_default, take_all}
use Rattle.std.proofs.lemmas.List.Elements.{All-cons, All-head, All-nil, All-tail, Contains-append_left, Contains-push, Contains-push_cases}
use Rattle.su_exec.specs.inside.Edges.{Edge, Fits, has}
use Rattle.su_reduce.specs.Left.{marked}
use Rattle.su_reduce.specs.Sheets.{pick, AreBelow, IsMarkedKey}
use Rattle.su_reduce.proofs.EarSteps.{marked_more}
use Rattle.su_exec.specs.inside.Joins.{IsReal}
use Rattle.su_exec.specs.inside.Semijoins.{AgreesWith, HasKey, IsSemijoin}
use Rattle.su_exec.proofs.ProjectedJoins.{pick_map}
use Rattle.su_exec.proofs.PartSteps.{agree_at}

-- one of the first n rows on the left, which has a partner
pub record IsKept (ls rs : List (List ℕ)) (left_key right_key : List ℕ) (n : ℕ) (r : List ℕ) : Type 0 where
  pub place : ℕ
  pub below : place < n
  pub is : slice_index_or ls place [] ≡ r
  pub partner : HasKey rs right_key (length rs) (pick left_key r)

-- those of the first n rows on the left that have a partner
abbrev pub AreKept : List (List ℕ) → List (List ℕ) → List ℕ → List ℕ → ℕ → List (List ℕ) → Type 0
AreKept ls rs left_key right_key n rows = (r : List ℕ) → Contains rows r ↔ IsKept ls rs left_key right_key n r

-- ---- keys

-- where all rows are marked, the keys of marked rows are the keys of rows
pub all_marked : (rows : List (List ℕ)) (marks : List Bool) (places : List ℕ) (n : ℕ) (k : List ℕ) → ((i : ℕ) → i < n → IsTrue (get_or marks i false)) → IsMarkedKey rows marks places n k ↔ HasKey rows places n k
all_marked rows marks places n k all = (
  λ one. record { place = one.place; below = one.below; is = one.is },
  λ one. record { place = one.place; below = one.below; is_marked = all one.place one.below; is = one.is },
)

-- ---- rows that stay

pub none_kept : (ls rs : List (List ℕ)) (left_key right_key : List ℕ) → AreKept ls rs left_key right_key 0 []
none_kept ls rs left_key right_key r = (λ h. absurd (let l = h.1 in omega arith), λ o. absurd (let l = o.below in omega arith))

module _ (ls rs : List (List ℕ)) (left_key right_key : List ℕ) (n : ℕ) (old : List (List ℕ)) (x : List ℕ) (is : x ≡ get_or ls n []) (before : AreKept ls rs left_key right_key n old) where
  later : (r : List ℕ) → IsKept ls rs left_key right_key n r → IsKept ls rs left_key right_key (n + 1) r
  later r k = let l = k.below in record { place = k.place; below = omega (arith, l); is = k.is; partner = k.partner }

  -- the one at n, or one before it
  cases : (r : List ℕ) → IsKept ls rs left_key right_key (n + 1) r → IsKept ls rs left_key right_key n r ⊎ (x ≡ r)
  cases r k =
      ⊎_elim
      (λ (e : k.place ≡ n). inr (is ∙ ap (λ p. get_or ls p []) (sym e) ∙ k.is))
      (λ (ne : k.place ≡ n → ⊥). let l = k.below in inl (record { place = k.place; below = omega (arith, l, ne); is = k.is; partner = k.partner }))
      (cases_eq k.place n)

  pub kept_more : (new : List (List ℕ)) → new ≡ old ++ x ∷ [] → HasKey rs right_key (length rs) (pick left_key x) → AreKept ls rs left_key right_key (n + 1) new
  kept_more new e partner r = (
    λ h.
        ⊎_elim
        (λ (a : Contains old r). later r ((before r).0 a))
        (λ (s : x ≡ r). record { place = n; below = omega arith; is = sym is ∙ s; partner = subst (λ (y : List ℕ). HasKey rs right_key (length rs) (pick left_key y)) s partner })
        (Contains-push_cases old x r (subst (λ (xs : List (List ℕ)). Contains xs r) e h)),
    λ k.
        subst (λ (xs : List (List ℕ)). Contains xs r) (sym e)
        (⊎_elim
        (λ (a : IsKept ls rs left_key right_key n r). Contains-append_left old (x ∷ []) r ((before r).1 a))
        (λ (s : x ≡ r). subst (λ (y : List ℕ). Contains (old ++ x ∷ []) y) s (Contains-push old x))
        (cases r k)),
  )

  pub kept_same : (HasKey rs right_key (length rs) (pick left_key x) → ⊥) → AreKept ls rs left_key right_key (n + 1) old
  kept_same none r = (
    λ h. later r ((before r).0 h),
    λ k.
        ⊎_elim
        (λ (a : IsKept ls rs left_key right_key n r). (before r).1 a)
        (λ (s : x ≡ r). absurd (none (subst (λ (y : List ℕ). HasKey rs right_key (length rs) (pick left_key y)) (sym s) k.partner)))
        (cases r k),
  )

  -- the row at n stays if it has a partner
  pub kept_if : (m : Bool) (new : List (List ℕ)) → new ≡ old ++ cond m (x ∷ []) [] → (IsTrue m ↔ HasKey rs right_key (length rs) (pick left_key x)) → AreKept ls rs left_key right_key (n + 1) new
  kept_if true new e tells = kept_more new e (tells.0 refl)
  kept_if false new e tells = subst (λ (rows : List (List ℕ)). AreKept ls rs left_key right_key (n + 1) rows) (sym (e ∙ append-nil old)) (kept_same (λ h. true≢false (sym (tells.1 h))))

-- the marked rows on the left, where the marks tell which have a partner
kept_first : (ls rs : List (List ℕ)) (left_key right_key : List ℕ) (marks : List Bool) → length marks ≡ length ls → ((i : ℕ) → i < length ls → IsTrue (get_or marks i false) ↔ HasKey rs right_key (length rs) (pick left_key (get_or ls i []))) → (n : ℕ) → n ≤ length ls → AreKept ls rs left_key right_key n (marked (take n marks) (take n ls))
kept_first ls rs left_key right_key marks long exact zero l = none_kept ls rs left_key right_key
kept_first ls rs left_key right_key marks long exact (suc n) l =
    let low : n < length ls = omega (arith, l) in
    let before = kept_first ls rs left_key right_key marks long exact n (omega (arith, l)) in
    let one : n + 1 ≡ suc n = omega arith in
    subst (λ m. AreKept ls rs left_key right_key m (marked (take (suc n) marks) (take (suc n) ls))) one
    (kept_if ls rs left_key right_key n (marked (take n marks) (take n ls)) (get_or ls n []) refl before (get_or marks n false) (marked (take (suc n) marks) (take (suc n) ls)) (marked_more marks ls n [] (omega (arith, low, long)) low) (exact n low))

pub kept_marked : (ls rs : List (List ℕ)) (left_key right_key : List ℕ) (marks : List Bool) → length marks ≡ length ls → ((i : ℕ) → i < length ls → IsTrue (get_or marks i false) ↔ HasKey rs right_key (length rs) (pick left_key (get_or ls i []))) → AreKept ls rs left_key right_key (length ls) (marked marks ls)
kept_marked ls rs left_key right_key marks long exact =
    subst (λ ms. AreKept ls rs left_key right_key (length ls) (marked ms ls)) (take_all (length ls) marks (omega (arith, long)))
    (subst (λ xs. AreKept ls rs left_key right_key (length ls) (marked (take (length ls) marks) xs)) (take_all (length ls) ls (omega arith)) (kept_first ls rs left_key right_key marks long exact (length ls) (omega arith)))

-- marked rows are rows
pub All-marked : {X : Type 0} (P : X → Type 0) (marks : List Bool) (xs : List X) → All P xs → All P (marked marks xs)
All-marked P [] xs all = All-nil P
All-marked P (m ∷ marks) [] all = All-nil P
All-marked P (true ∷ marks) (x ∷ xs) all = All-cons P x (marked marks xs) (All-head P x xs all) (All-marked P marks xs (All-tail P x xs all))
All-marked P (false ∷ marks) (x ∷ xs) all = All-marked P marks xs (All-tail P x xs all)

-- ---- a semijoin

module _ (a b g : Edge ℕ) (left right : List ℕ) (rows : List (List ℕ)) (below : AreBelow left (length a.vars)) (low : AreBelow right (length b.vars)) (same : pick left a.vars ≡ pick right b.vars)
    (shared : (k : ℕ) → has a.vars k ≡ true → has b.vars k ≡ true → has (pick left a.vars) k ≡ true) (real : IsReal b) (kept : AreKept a.rows b.rows left right (length a.rows) rows) (is : g ≡ record { vars = a.vars; rows = rows }) where
  at : (v : ℕ → ℕ) → Fits v (record { vars = a.vars; rows = rows }) → Fits v g
  at v h = subst (λ (e : Edge ℕ). Fits v e) (sym is) h

  from : (v : ℕ → ℕ) → Fits v g → IsKept a.rows b.rows left right (length a.rows) (map v a.vars)
  from v h = (kept (map v a.vars)).0 (subst (λ (e : Edge ℕ). Fits v e) is h)

  stays : (v : ℕ → ℕ) → Fits v a → Fits v b → Fits v g
  stays v x y = at v ((kept (map v a.vars)).1 (record {
    place = x.0;
    below = x.1;
    is = get_or_default a.rows x.0 [] (map v a.vars) x.1 ∙ x.2;
    partner = record {
      place = y.0;
      below = y.1;
      is = ap (pick right) (get_or_default b.rows y.0 [] (map v b.vars) y.1 ∙ y.2) ∙ pick_map v right b.vars low ∙ sym (ap (map v) same) ∙ sym (pick_map v left a.vars below);
    };
  }))

  fewer : (v : ℕ → ℕ) → Fits v g → Fits v a
  fewer v h = let k = from v h in (k.place, k.below, get_or_default a.rows k.place (map v a.vars) [] k.below ∙ k.is)

  partner : (v : ℕ → ℕ) → Fits v g → AgreesWith a b v
  partner v h =
      let key = (from v h).partner in
      let w = real key.place [] key.below in
      let e : map v (pick left a.vars) ≡ map w.0 (pick left a.vars) = sym (pick_map v left a.vars below) ∙ sym key.is ∙ ap (pick right) (sym w.1) ∙ pick_map w.0 right b.vars low ∙ sym (ap (map w.0) same) in
      record {
        valuation = w.0;
        fits = (key.place, key.below, get_or_default b.rows key.place (map w.0 b.vars) [] key.below ∙ sym w.1);
        same = λ k p q. agree_at v w.0 (pick left a.vars) e k (shared k p q);
      }

  pub semijoin_is : IsSemijoin a b g
  semijoin_is = record {
    vars = ap (λ (e : Edge ℕ). e.vars) is;
    stays = stays;
    fewer = fewer;
    partner = partner;
  }

-- what fits both fits what is left, and the other way round
pub semijoin_both : (a b g : Edge ℕ) → IsSemijoin a b g → (v : ℕ → ℕ) → (Fits v a × Fits v b) ↔ (Fits v g × Fits v b)
semijoin_both a b g s v = (λ h. (s.stays v h.0 h.1, h.1), λ h. (s.fewer v h.0, h.1))

-- what is left where the marked rows are kept in place
pub kept_in_place : (es : List (Edge ℕ)) (i : ℕ) (a b m g : Edge ℕ) (marks read : List Bool) → i < length es → a ≡ get_or es i a → m ≡ get_or es i m → read ≡ marks → g ≡ record { vars = m.vars; rows = marked read m.rows }
    → IsSemijoin a b (record { vars = a.vars; rows = marked marks a.rows }) → IsSemijoin a b g
kept_in_place es i a b m g marks read low a_is m_is same is semijoin =
    let e : m ≡ a = m_is ∙ get_or_default es i m a low ∙ sym a_is in
    let of : Edge ℕ → Edge ℕ = λ x. record { vars = x.vars; rows = marked read x.rows } in
    let by : List Bool → Edge ℕ = λ ms. record { vars = a.vars; rows = marked ms a.rows } in
    subst (λ (x : Edge ℕ). IsSemijoin a b x) (sym (is ∙ ap of e ∙ ap by same)) semijoin
