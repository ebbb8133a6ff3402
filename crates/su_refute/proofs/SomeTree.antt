-- There is a tree for each kept row.
use Rattle.std.proofs.Common.{◌≡◌, ◌≢◌, ℕ, zero, suc, ◌+◌, ◌<◌, ◌≤◌, ◌⊎◌, List, [], ◌∷◌, ◌++◌, map, length, get_or, All, Contains, inl, inr, refl, sym, ap, subst, ◌∙◌, ⊎_elim, arith}
use Rattle.std.proofs.Math.Seq.{get_or-append_seam}
use Rattle.std.proofs.lemmas.Bool.{cases_lt}
use Rattle.std.proofs.lemmas.List.{length-append, get_or_append_left}
use Rattle.std.proofs.lemmas.List.Elements.{All-push, All-contains}
use Rattle.su_base.specs.Lists.{AreExactly}
use Rattle.su_base.proofs.AscendingNumbers.{exactly_none, exactly_more, exactly_skip, exactly_all, exactly_one}
use Rattle.su_base.proofs.Items.{Contains-cases, Contains-head, Contains-later, Contains-nil}
use Rattle.su_check.specs.declared.sending.Sent.{Sent}
use Rattle.su_check.specs.declared.nodes.Node.{Node}
use Rattle.su_check.specs.declared.nodes.Branch.{Branch}
use Rattle.su_check.specs.SentRows.{Lines, sent_too}
use Rattle.su_check.specs.inside.Widths.{IsWithin}
use Rattle.su_check.specs.Refutations.{IsOpen, IsFitting, target_of, node_of}
use Rattle.su_refute.specs.inside.Positions.{IsReady}
use Rattle.su_min.proofs.Holes.{pigeonhole}
use Rattle.su_refute.proofs.Ready.{ready_more}
use Rattle.su_refute.specs.Trees.{IsFewest, IsTreeAt}
use Rattle.su_refute.specs.inside.Positions.{IsFree, IsNeeded}
use Rattle.su_refute.proofs.Decidable.{Decided, decided_fitting, decided_open}
use Rattle.su_refute.proofs.OneTree.{made, made_branch, tree_made}
use Rattle.su_refute.proofs.Grown.{branch_target, branch_node}

-- the numbers below n with a property that can be found out
listed : (P : ℕ → Type 0) → ((j : ℕ) → Decided (P j)) → (n : ℕ) → (js : List ℕ) × AreExactly (λ j. (j < n) × P j) js
listed P f zero = ([], exactly_none P)
listed P f (suc n) =
    let before = listed P f n in
    let e : n + 1 ≡ suc n = omega arith in
    ⊎_elim
    (λ (p : P n). (before.0 ++ n ∷ [], subst (λ k. AreExactly (λ j. (j < k) × P j) (before.0 ++ n ∷ [])) e (exactly_more P n before.0 p before.1)))
    (λ (none : P n → ⊥). (before.0, subst (λ k. AreExactly (λ j. (j < k) × P j) before.0) e (exactly_skip P n before.0 none before.1)))
    (f n)

-- the least number of least weight
record IsLightest (P : ℕ → Type 0) (weight : ℕ → ℕ) (n s : ℕ) : Type 0 where
  member : P s
  below : s < n
  least : (q : ℕ) → q < n → P q → (weight s < weight q) ⊎ ((weight s ≡ weight q) × (s ≤ q))

lightest : (P : ℕ → Type 0) → ((j : ℕ) → Decided (P j)) → (weight : ℕ → ℕ) (n : ℕ) → ((q : ℕ) → q < n → P q → ⊥) ⊎ ((s : ℕ) × IsLightest P weight n s)
lightest P f weight zero = inl (λ q h p. absurd (omega arith))
lightest P f weight (suc n) = step (f n) (lightest P f weight n)
  where
    Best : ℕ → Type 0
    Best k = ((q : ℕ) → q < k → P q → ⊥) ⊎ ((s : ℕ) × IsLightest P weight k s)

    older : (s : ℕ) → IsLightest P weight n s → (P n → (weight s < weight n) ⊎ ((weight s ≡ weight n) × (s ≤ n))) → IsLightest P weight (suc n) s
    older s best here = record {
      member = best.member;
      below = let l = best.below in omega arith;
      least = λ q h p.
          ⊎_elim
          (λ (lt : q < n). best.least q lt p)
          (λ (le : n ≤ q). let e : n ≡ q = omega arith in subst (λ q. (weight s < weight q) ⊎ ((weight s ≡ weight q) × (s ≤ q))) e (here (subst P (sym e) p)))
          (cases_lt q n);
    }

    newer : P n → ((q : ℕ) → q < n → P q → weight n < weight q) → IsLightest P weight (suc n) n
    newer p less = record {
      member = p;
      below = omega arith;
      least = λ q h pq.
          ⊎_elim
          (λ (lt : q < n). inl (less q lt pq))
          (λ (le : n ≤ q). let e : n ≡ q = omega arith in inr (ap weight e, omega arith))
          (cases_lt q n);
    }

    step : Decided (P n) → Best n → Best (suc n)
    step (inr none) (inl nobody) = inl (λ q h p. ⊎_elim (λ (lt : q < n). nobody q lt p) (λ (le : n ≤ q). let e : q ≡ n = omega arith in none (subst P e p)) (cases_lt q n))
    step (inr none) (inr (s, best)) = inr (s, older s best (λ p. absurd (none p)))
    step (inl p) (inl nobody) = inr (n, newer p (λ q h pq. absurd (nobody q h pq)))
    step (inl p) (inr (s, best)) =
        ⊎_elim
        (λ (lt : weight n < weight s).
        inr (n, newer p (λ q h pq. ⊎_elim (λ (l : weight s < weight q). let r : weight n < weight q = omega arith in r) (λ (l : (weight s ≡ weight q) × (s ≤ q)). let e = l.0 in let r : weight n < weight q = omega arith in r) (best.least q h pq))))
        (λ (le : weight s ≤ weight n).
        inr (s, older s best (λ p. ⊎_elim (λ (l : weight s < weight n). inl l) (λ (l : weight n ≤ weight s). let b = best.below in inr (omega arith, omega arith)) (cases_lt (weight s) (weight n)))))
        (cases_lt (weight n) (weight s))

-- the targets that fit a row
targets_there : (t : Lines) (r : ℕ) (p : List Sent) → IsReady t p → (s : ℕ) → s < length t.rows → (js : List ℕ) × AreExactly (IsFitting t r p s) js
targets_there t r p ready s hs =
    let l = listed (IsFitting t r p s) (λ j. decided_fitting t r p s j ready hs) (length t.rows) in
    (l.0, exactly_all (IsFitting t r p s) (length t.rows) l.0 (λ j fit. All-contains (λ k. k < length t.rows) t.kept j ready.kept fit.member) l.1)

-- how many targets fit a row
count_there : (t : Lines) (r : ℕ) (p : List Sent) → IsReady t p → ℕ → ℕ
count_there t r p ready s = ⊎_elim (λ (lt : s < length t.rows). length (targets_there t r p ready s lt).0) (λ (le : length t.rows ≤ s). 0) (cases_lt s (length t.rows))

count_is : (t : Lines) (r : ℕ) (p : List Sent) (ready : IsReady t p) (s : ℕ) (js : List ℕ) → s < length t.rows → AreExactly (IsFitting t r p s) js → count_there t r p ready s ≡ length js
unfolding count_there
count_is t r p ready s js hs exact = go (cases_lt s (length t.rows))
  where
    go : (c : (s < length t.rows) ⊎ (length t.rows ≤ s)) → ⊎_elim (λ (lt : s < length t.rows). length (targets_there t r p ready s lt).0) (λ (le : length t.rows ≤ s). 0) c ≡ length js
    go (inl lt) = let x = targets_there t r p ready s lt in ap length (exactly_one (IsFitting t r p s) x.0 js x.1 exact)
    go (inr le) = absurd (omega arith)

open_below : (t : Lines) (p : List Sent) (q : ℕ) → IsReady t p → IsOpen t p q → q < length t.rows
open_below t p q ready o = All-contains (λ k. k < length t.rows) t.kept q ready.kept o.member

fewest_there : (t : Lines) (r : ℕ) (p : List Sent) → IsReady t p → All (IsFree t r) p → IsNeeded t r → (s : ℕ) × IsOpen t p s × IsFewest t r p s
fewest_there t r p ready free needed =
    ⊎_elim
    (λ (none : (q : ℕ) → q < length t.rows → IsOpen t p q → ⊥). absurd (needed p ready.sent free (λ q member o. none q (open_below t p q ready o) o)))
    (λ (x : (s : ℕ) × IsLightest (IsOpen t p) (count_there t r p ready) (length t.rows) s).
    let s = x.0 in let best = x.1 in (
      s,
      best.member,
      λ q js ks o ejs eks.
          let hq = open_below t p q ready o in
          let cs = count_is t r p ready s js best.below ejs in
          let cq = count_is t r p ready q ks hq eks in
          subst (λ a. (a < length ks) ⊎ ((a ≡ length ks) × (s ≤ q))) cs (subst (λ b. (count_there t r p ready s < b) ⊎ ((count_there t r p ready s ≡ b) × (s ≤ q))) cq (best.least q hq o)),
    ))
    (lightest (IsOpen t p) (decided_open t p) (count_there t r p ready) (length t.rows))

-- ---- branches

branches_there : (t : Lines) (r : ℕ) (p : List Sent) (s : ℕ) (js : List ℕ) → ((j : ℕ) → Contains js j → (m : Node) × IsTreeAt t r m (sent_too p s j))
    → (bs : List Branch) × (map target_of bs ≡ js) × ((b : Branch) → Contains bs b → IsTreeAt t r (node_of b) (sent_too p s (target_of b)))
branches_there t r p s [] f = ([], refl, λ b h. absurd (Contains-nil b h))
branches_there t r p s (j ∷ js) f =
    let m = f j (Contains-head j js) in
    let rest = branches_there t r p s js (λ i h. f i (Contains-later j js i h)) in
    let b = made_branch j m.0 in (
      b ∷ rest.0,
      ap (λ i. i ∷ map target_of rest.0) (branch_target j m.0) ∙ ap (λ is. j ∷ is) rest.1,
      λ d has.
          ⊎_elim
          (λ (e : b ≡ d). subst (λ b. IsTreeAt t r (node_of b) (sent_too p s (target_of b))) e (rw (branch_node j m.0, branch_target j m.0) m.1))
          (λ (h : Contains rest.0 d). rest.2 d h)
          (Contains-cases b rest.0 d has),
    )

-- ---- rows that are sent are apart

abbrev pub AreApart : List Sent → Type 0
AreApart p = (a b : ℕ) (d : Sent) → a < b → b < length p → (get_or p a d).row ≢ (get_or p b d).row

pub apart_more : (p : List Sent) (x : Sent) → AreApart p → All (λ y. y.row ≢ x.row) p → AreApart (p ++ x ∷ [])
apart_more p x apart free a b d lt hb e =
    let len = length-append p (x ∷ []) in
    let la : a < length p = omega arith in
    let ea = get_or_append_left p (x ∷ []) d a la in
    ⊎_elim
    (λ (lb : b < length p). apart a b d lt lb (ap (λ (y : Sent). y.row) (sym ea) ∙ e ∙ ap (λ (y : Sent). y.row) (get_or_append_left p (x ∷ []) d b lb)))
    (λ (le : length p ≤ b).
    let eb : length p ≡ b = omega arith in
    let end : get_or (p ++ x ∷ []) b d ≡ x = subst (λ k. get_or (p ++ x ∷ []) k d ≡ x) eb (get_or-append_seam p x [] d) in
    free a d la (ap (λ (y : Sent). y.row) (sym ea) ∙ e ∙ ap (λ (y : Sent). y.row) end))
    (cases_lt b (length p))

pub few_sent : (t : Lines) (p : List Sent) (d : Sent) → All (IsWithin t) p → AreApart p → length p ≤ length t.rows
few_sent t p d within apart = pigeonhole (length t.rows) (length p) (λ a. (get_or p a d).row) (λ a h. (within a d h).row) (λ a b lt h. apart a b d lt h)

-- ---- trees

tree_there : (fuel : ℕ) (t : Lines) (r : ℕ) (p : List Sent) → IsReady t p → All (IsFree t r) p → AreApart p → IsNeeded t r → length t.rows < fuel + length p → (n : Node) × IsTreeAt t r n p
tree_there zero t r p ready free apart needed enough = absurd (let l = few_sent t p (record { row = 0; target = 0 }) ready.within apart in omega arith)
tree_there (suc fuel) t r p ready free apart needed enough =
    let x = fewest_there t r p ready free needed in
    let s = x.0 in let open' = x.1 in
    let js = targets_there t r p ready s (open_below t p s ready open') in
    let bs =
    branches_there t r p s js.0 (λ j has.
    let fit = (js.1.members j).0 has in
    let new : Sent = record { row = s; target = j } in
    let len = length-append p (new ∷ []) in
    tree_there fuel t r (sent_too p s j) (ready_more t r p s j ready open'.member fit) (All-push (IsFree t r) p new free (fit.member, fit.other)) (apart_more p new apart open'.free) needed (omega arith)) in
    (made s bs.0, tree_made t r p s bs.0 open' x.2 (subst (AreExactly (IsFitting t r p s)) (sym bs.1) js.1) bs.2)

pub a_tree : (t : Lines) (r : ℕ) → IsReady t [] → IsNeeded t r → (n : Node) × IsTreeAt t r n []
a_tree t r ready needed = tree_there (length t.rows + 1) t r [] ready (λ k d h. absurd (omega arith)) (λ a b d lt h. absurd (omega arith)) needed (omega arith)
