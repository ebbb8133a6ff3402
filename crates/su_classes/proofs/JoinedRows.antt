-- Merging for a dependency: each row with its first at the right side; and for all dependencies, one after the other.
use Rattle.std.proofs.Common.{◌≡◌, ℕ, ◌+◌, ◌<◌, ◌≤◌, ⊎_elim, Bool, true, false, ◌||◌, List, [], length, get_or, Contains, refl, sym, ap, ◌∙◌, subst, arith, below_more}
use Rattle.std.specs.Prelude.{All}
use Rattle.std.specs.FinSet.{contains, empty}
use Rattle.std.proofs.lemmas.Bool.{cases_lt, or_parts}
use Rattle.std.proofs.lemmas.List.{get_or_default}
use Rattle.std.proofs.lemmas.List.Elements.{All-contains, Contains-get_or}
use Rattle.su_fd.specs.declared.dependencies.Fd.{Fd}
use Rattle.su_tableau.specs.declared.symbols.Sym.{Sym}
use Rattle.su_tableau.specs.declared.symbols.Sym.TheVariants.{Var}
use Rattle.su_tableau.proofs.SymbolParts.{same_var}
use Rattle.su_classes.specs.declared.items.Placed.{Placed}
use Rattle.su_classes.specs.declared.items.Together.{Together}
use Rattle.su_fd.specs.MetDependencies.{LiesIn}
use Rattle.su_classes.specs.Items.{item_of, SameItemLabels, Keeps, IsPlacedBelow}
use Rattle.su_classes.specs.Tables.{rep, IsTable, IsSound}
use Rattle.su_classes.specs.inside.Tables.{IsForest, IsJoining, IsShortened, IsMerging, IsProgress}
use Rattle.su_classes.specs.inside.Firsts.{row_at, first_at, AreMembersBelow, AreFirsts}
use Rattle.su_classes.proofs.Listed.{right_low}
use Rattle.su_base.proofs.Subsets.{subset_at}
use Rattle.su_classes.proofs.Merges.{own_labels, progress_none, progress_then, progress_same}

-- ---- one merge after another

pub merging_none : (P : (ℕ → Sym) → Type 0) (t : List ℕ) → IsForest t → IsMerging P t t
merging_none P t f = record { same_length = refl; ordered = f; sound = λ label s p. s; finer = λ label s. s }

pub merging_then : (P : (ℕ → Sym) → Type 0) (a b c : List ℕ) → IsMerging P a b → IsMerging P b c → IsMerging P a c
merging_then P a b c m k = record {
  same_length = k.same_length ∙ m.same_length;
  ordered = k.ordered;
  sound = λ label s p. k.sound label (m.sound label s p) p;
  finer = λ label s. m.finer label (k.finer label s);
}

-- a merge of what labels with another property put together, where they are sound before
pub merging_by : (P Q : (ℕ → Sym) → Type 0) (old new : List ℕ) → ((label : ℕ → Sym) → IsSound old label → Q label → P label) → IsMerging P old new → IsMerging Q old new
merging_by P Q old new f m = record { same_length = m.same_length; ordered = m.ordered; sound = λ label s q. m.sound label s (f label s q); finer = m.finer }

pub merging_joining : (P : (ℕ → Sym) → Type 0) (old new : List ℕ) → IsJoining P old new → IsMerging P old new
merging_joining P old new j = record { same_length = j.same_length; ordered = j.ordered; sound = λ label s p. (j.exact label).1 (s, p); finer = λ label s. ((j.exact label).0 s).0 }

pub merging_shortened : (P : (ℕ → Sym) → Type 0) (a b c : List ℕ) → IsMerging P a b → IsShortened b c → IsMerging P a c
merging_shortened P a b c m s = record {
  same_length = s.same_length ∙ m.same_length;
  ordered = s.ordered;
  sound = λ label x p. (s.exact label).1 (m.sound label x p);
  finer = λ label x. m.finer label ((s.exact label).0 x);
}

-- ---- a dependency

-- so far: the first n rows were joined with their firsts, from the table old to the table t
pub record IsBound (f : Fd) (rows : List Placed) (firsts : List ℕ) (old t : List ℕ) (n : ℕ) (changed : Bool) : Type 0 where
  pub merging : IsMerging (λ label. Keeps label rows f) old t
  pub progress : IsProgress old t changed
  pub settled : changed ≡ false → (p : ℕ) → p < n → LiesIn f (row_at rows p).has → SameItemLabels (rep t) f.right (row_at rows p) (row_at rows (first_at firsts p))

module _ (f : Fd) (rows : List Placed) (firsts : List ℕ) (old : List ℕ) (flat : IsTable old) (placed : All (IsPlacedBelow (length old)) rows) (are : AreFirsts (rep old) f rows firsts) where
  row_in : (p : ℕ) → p < length rows → Contains rows (row_at rows p)
  row_in p l = Contains-get_or rows p (record { has = empty; cells = [] }) l

  placed_at : (p : ℕ) → p < length rows → IsPlacedBelow (length old) (row_at rows p)
  placed_at p l = placed p (record { has = empty; cells = [] }) l

  in_left : (r : Placed) → LiesIn f r.has → (a : ℕ) → contains f.left a ≡ true → contains r.has a ≡ true
  in_left r lies a h = subset_at f.left r.has a lies.left h

  -- labels that are sound for old are the same where its own labels are
  sound_same : (label : ℕ → Sym) → IsSound old label → (i j : ℕ) → i < length old → j < length old → rep old i ≡ rep old j → label i ≡ label j
  sound_same label s i j i_in j_in e = s i i_in ∙ ap label e ∙ sym (s j j_in)

  -- so labels that keep the dependency have the row and its first together at the right side
  forced : (p : ℕ) → p < length rows → LiesIn f (row_at rows p).has → (label : ℕ → Sym) → IsSound old label → Keeps label rows f → SameItemLabels label f.right (row_at rows p) (row_at rows (first_at firsts p))
  forced p l lies label s keeps =
      let first = first_at firsts p in
      let first_in = are.within p l in
      let first_lies = are.lies p l lies in
      keeps (row_at rows p) (row_at rows first) (row_in p l) (row_in first first_in) lies first_lies
      (λ a h. sound_same label s (item_of (row_at rows p) a) (item_of (row_at rows first) a) ((placed_at p l).below a (in_left (row_at rows p) lies a h)) ((placed_at first first_in).below a (in_left (row_at rows first) first_lies a h)) (are.alike p l lies a h))

  pub bound_none : IsBound f rows firsts old old 0 false
  bound_none = record {
    merging = merging_none (λ label. Keeps label rows f) old flat.below;
    progress = progress_none old;
    settled = λ e p l. absurd (omega arith);
  }

  -- a row in which the dependency lies is joined with its first
  pub bound_more : (t new : List ℕ) (n : ℕ) (x y : Bool) (right : List ℕ) → n < length rows → LiesIn f (row_at rows n).has → AreMembersBelow 128 f.right right → IsBound f rows firsts old t n x
      → IsJoining (λ label. All (λ a. label (item_of (row_at rows n) a) ≡ label (item_of (row_at rows (first_at firsts n)) a)) right) t new → IsProgress t new y → IsBound f rows firsts old new (n + 1) (x || y)
  bound_more t new n x y right l lies members so_far j p =
      let first = first_at firsts n in
      let progress = progress_then old t new x y so_far.progress p in
      let low : (a : ℕ) → contains f.right a ≡ true → Contains right a = λ a h. (members a).1 (right_low (length old) f (row_at rows n) (placed_at n l) lies a h, h) in
      record {
        merging = merging_then (λ label. Keeps label rows f) old t new so_far.merging
            (merging_by (λ label. All (λ a. label (item_of (row_at rows n) a) ≡ label (item_of (row_at rows first) a)) right) (λ label. Keeps label rows f) t new
            (λ label s keeps i d below.
            let a = get_or right i d in
            forced n l lies label (so_far.merging.finer label s) keeps a ((members a).0 (Contains-get_or right i d below)).1)
            (merging_joining (λ label. All (λ a. label (item_of (row_at rows n) a) ≡ label (item_of (row_at rows first) a)) right) t new j));
        progress = progress;
        settled = λ e.
            let t_is : t ≡ old = progress_same old t x flat so_far.progress (or_parts x y e).0 in
            let new_is : new ≡ old = progress_same old new (x || y) flat progress e in
            let own : IsSound new (λ i. Var (rep new i)) = own_labels new (subst IsTable (sym new_is) flat) in
            below_more (λ p. LiesIn f (row_at rows p).has → SameItemLabels (rep new) f.right (row_at rows p) (row_at rows (first_at firsts p))) n
            (λ p below is. subst (λ (u : List ℕ). SameItemLabels (rep u) f.right (row_at rows p) (row_at rows (first_at firsts p))) (t_is ∙ sym new_is) (so_far.settled (or_parts x y e).0 p below is))
            (λ is a h.
            same_var _ _
            (All-contains (λ a. Var (rep new (item_of (row_at rows n) a)) ≡ Var (rep new (item_of (row_at rows first) a))) right a ((j.exact (λ i. Var (rep new i))).0 own).1 (low a h)));
      }

  -- another row is passed
  pub bound_pass : (t : List ℕ) (n : ℕ) (x : Bool) → (¬ LiesIn f (row_at rows n).has) → IsBound f rows firsts old t n x → IsBound f rows firsts old t (n + 1) x
  bound_pass t n x out so_far = record {
    merging = so_far.merging;
    progress = so_far.progress;
    settled = λ e. below_more (λ p. LiesIn f (row_at rows p).has → SameItemLabels (rep t) f.right (row_at rows p) (row_at rows (first_at firsts p))) n (so_far.settled e) (λ lies. absurd (out lies));
  }

  -- where nothing was merged, the dependency is kept
  pub bound_keeps : (t : List ℕ) (n : ℕ) (x : Bool) → n ≡ length rows → IsBound f rows firsts old t n x → x ≡ false → Keeps (rep t) rows f
  bound_keeps t n x all so_far e r q cr cq r_lies q_lies same =
      let d : Placed = record { has = empty; cells = [] } in
      let t_is : t ≡ old = progress_same old t x flat so_far.progress e in
      let is_r : row_at rows cr.0 ≡ r = get_or_default rows cr.0 d r cr.1 ∙ cr.2 in
      let is_q : row_at rows cq.0 ≡ q = get_or_default rows cq.0 d q cq.1 ∙ cq.2 in
      let lies_r = subst (λ (z : Placed). LiesIn f z.has) (sym is_r) r_lies in
      let lies_q = subst (λ (z : Placed). LiesIn f z.has) (sym is_q) q_lies in
      let left : SameItemLabels (rep old) f.left (row_at rows cr.0) (row_at rows cq.0) =
      subst (λ (z : Placed). SameItemLabels (rep old) f.left z (row_at rows cq.0)) (sym is_r) (subst (λ (z : Placed). SameItemLabels (rep old) f.left r z) (sym is_q) (subst (λ (u : List ℕ). SameItemLabels (rep u) f.left r q) t_is same)) in
      let firsts_same = are.same cr.0 cq.0 cr.1 cq.1 lies_r lies_q left in
      let one = so_far.settled e cr.0 (omega (arith, cr.1, all)) lies_r in
      let two = so_far.settled e cq.0 (omega (arith, cq.1, all)) lies_q in
      let right : SameItemLabels (rep t) f.right (row_at rows cr.0) (row_at rows cq.0) = λ a h. one a h ∙ ap (λ p. rep t (item_of (row_at rows p) a)) firsts_same ∙ sym (two a h) in
      subst (λ (z : Placed). SameItemLabels (rep t) f.right r z) is_q (subst (λ (z : Placed). SameItemLabels (rep t) f.right z (row_at rows cq.0)) is_r right)

-- ---- all dependencies

pub sweep_merging : (rows : List Placed) (fds : List Fd) (i : ℕ) (f : Fd) (old t new : List ℕ) → i < length fds → f ≡ get_or fds i f → IsMerging (λ label. All (Keeps label rows) fds) old t → IsMerging (λ label. Keeps label rows f) t new → IsMerging (λ label. All (Keeps label rows) fds) old new
sweep_merging rows fds i f old t new l is m k =
    merging_then (λ label. All (Keeps label rows) fds) old t new m
    (merging_by (λ label. Keeps label rows f) (λ label. All (Keeps label rows) fds) t new (λ label s p. subst (Keeps label rows) (sym is) (p i f l)) k)

pub sweep_more : (rows : List Placed) (fds : List Fd) (i : ℕ) (f : Fd) (t new : List ℕ) (x z : Bool) → i < length fds → f ≡ get_or fds i f → IsTable t → IsProgress t new z → (x ≡ false → (k : ℕ) (d : Fd) → k < i → Keeps (rep t) rows (get_or fds k d)) → (z ≡ false → Keeps (rep new) rows f)
    → (x || z) ≡ false → (k : ℕ) (d : Fd) → k < i + 1 → Keeps (rep new) rows (get_or fds k d)
sweep_more rows fds i f t new x z l is flat p before here e k d below =
    ⊎_elim
    (λ (lt : k < i). subst (λ (u : List ℕ). Keeps (rep u) rows (get_or fds k d)) (sym (progress_same t new z flat p (or_parts x z e).1)) (before (or_parts x z e).0 k d lt))
    (λ (ge : i ≤ k).
    let at : i ≡ k = omega arith in
    subst (Keeps (rep new) rows) (is ∙ get_or_default fds i f d l ∙ ap (λ j. get_or fds j d) at) (here (or_parts x z e).1))
    (cases_lt k i)

-- ---- the whole

pub own_forest : (t : List ℕ) → ((i : ℕ) → i < length t → rep t i ≡ i) → IsForest t
own_forest t own i l = let e = own i l in omega arith

pub own_sound : (t : List ℕ) (label : ℕ → Sym) → ((i : ℕ) → i < length t → rep t i ≡ i) → IsSound t label
own_sound t label own i l = ap label (sym (own i l))

-- what is together in all labels that are sound for a flat table is so in its own
pub own_equal : (t : List ℕ) (equal : List Together) → IsTable t → ((label : ℕ → Sym) → IsSound t label → All (λ e. label e.left ≡ label e.right) equal) → All (λ e. rep t e.left ≡ rep t e.right) equal
own_equal t equal flat all i d l = same_var _ _ (all (λ i. Var (rep t i)) (own_labels t flat) i d l)
