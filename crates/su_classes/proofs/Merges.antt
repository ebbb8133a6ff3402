-- One merge after another: what is joined, and how much progress it is.
use Rattle.std.proofs.Common.{◌≡◌, ◌↔◌, ℕ, ◌+◌, ◌<◌, ◌≤◌, inl, inr, ⊎_elim, Bool, true, false, ◌||◌, List, length, get_or, set, refl, sym, ap, ◌∙◌, subst, arith}
use Rattle.std.specs.Prelude.{All}
use Rattle.std.proofs.lemmas.Bool.{cases_lt, true≢false}
use Rattle.std.proofs.lemmas.List.{get_or_default}
use Rattle.su_tableau.specs.declared.symbols.Sym.{Sym}
use Rattle.su_tableau.specs.declared.symbols.Sym.TheVariants.{Var}
use Rattle.su_classes.specs.Tables.{rep, IsTable, IsSound}
use Rattle.su_classes.specs.inside.Tables.{IsForest, class_count, IsJoining, IsShortened, IsProgress}
use Rattle.su_classes.proofs.Trees.{shortened_count, link_joining, link_fewer}

-- ---- joining

pub joining_none : (t : List ℕ) → IsForest t → (P : (ℕ → Sym) → Type 0) → ((label : ℕ → Sym) → P label) → IsJoining P t t
joining_none t f P all = record { same_length = refl; ordered = f; exact = λ label. (λ s. (s, all label), λ s. s.0) }

-- the property may be told otherwise, for labels that are sound before
pub joining_by : (P Q : (ℕ → Sym) → Type 0) (old new : List ℕ) → ((label : ℕ → Sym) → IsSound old label → P label ↔ Q label) → IsJoining P old new → IsJoining Q old new
joining_by P Q old new f j = record {
  same_length = j.same_length;
  ordered = j.ordered;
  exact = λ label. (
    λ s. let w = (j.exact label).0 s in (w.0, (f label w.0).0 w.1),
    λ s. (j.exact label).1 (s.0, (f label s.0).1 s.1),
  );
}

-- what holds of the first i elements and of the next one holds of one more
pub joining_more : {X : Type 0} (Q : (ℕ → Sym) → X → Type 0) (xs : List X) (i : ℕ) (x : X) (old t new : List ℕ) → i < length xs → x ≡ get_or xs i x → IsJoining (λ label. (k : ℕ) (d : X) → k < i → Q label (get_or xs k d)) old t
    → IsJoining (λ label. Q label x) t new → IsJoining (λ label. (k : ℕ) (d : X) → k < i + 1 → Q label (get_or xs k d)) old new
joining_more Q xs i x old t new l is first next = record {
  same_length = next.same_length ∙ first.same_length;
  ordered = next.ordered;
  exact = λ label. (
    λ s.
        let w = (next.exact label).0 s in
        let v = (first.exact label).0 w.0 in (
          v.0,
          λ k d below.
              ⊎_elim
              (λ (lt : k < i). v.1 k d lt)
              (λ (ge : i ≤ k).
              let at : i ≡ k = omega arith in
              subst (Q label) (is ∙ get_or_default xs i x d l ∙ ap (λ j. get_or xs j d) at) w.1)
              (cases_lt k i),
        ),
    λ s. (next.exact label).1 ((first.exact label).1 (s.0, λ k d lt. s.1 k d (omega arith)), subst (Q label) (sym is) (s.1 i x (omega arith))),
  );
}

-- the same for the element at i, read with some default
pub joining_at : {X : Type 0} (Q : (ℕ → Sym) → X → Type 0) (xs : List X) (i : ℕ) (e : X) (old t new : List ℕ) → i < length xs → IsJoining (λ label. (k : ℕ) (d : X) → k < i → Q label (get_or xs k d)) old t
    → IsJoining (λ label. Q label (get_or xs i e)) t new → IsJoining (λ label. (k : ℕ) (d : X) → k < i + 1 → Q label (get_or xs k d)) old new
joining_at Q xs i e old t new l first next = joining_more Q xs i (get_or xs i e) old t new l (get_or_default xs i e (get_or xs i e) l) first next

-- all elements are the first ones
pub joining_all : {X : Type 0} (Q : (ℕ → Sym) → X → Type 0) (xs : List X) (i : ℕ) (old t : List ℕ) → length xs ≤ i → i ≤ length xs → IsJoining (λ label. (k : ℕ) (d : X) → k < i → Q label (get_or xs k d)) old t → IsJoining (λ label. All (Q label) xs) old t
joining_all {X} Q xs i old t ge le j =
    joining_by (λ label. (k : ℕ) (d : X) → k < i → Q label (get_or xs k d)) (λ label. All (Q label) xs) old t
    (λ label s. (λ h k d l. h k d (omega arith), λ h k d l. h k d (omega arith))) j

-- the same for two items that are those of two rows at the i-th attribute
pub joining_cells : (f g : ℕ → ℕ) (xs : List ℕ) (i e x y : ℕ) (old t new : List ℕ) → i < length xs → x ≡ f (get_or xs i e) → y ≡ g (get_or xs i e) → IsJoining (λ label. (k d : ℕ) → k < i → label (f (get_or xs k d)) ≡ label (g (get_or xs k d))) old t
    → IsJoining (λ label. label x ≡ label y) t new → IsJoining (λ label. (k d : ℕ) → k < i + 1 → label (f (get_or xs k d)) ≡ label (g (get_or xs k d))) old new
joining_cells f g xs i e x y old t new l ex ey first next =
    joining_at (λ label a. label (f a) ≡ label (g a)) xs i e old t new l first
    (joining_by (λ label. label x ≡ label y) (λ label. label (f (get_or xs i e)) ≡ label (g (get_or xs i e))) t new
    (λ label s. (λ h. ap label (sym ex) ∙ h ∙ ap label ey, λ h. ap label ex ∙ h ∙ ap label (sym ey))) next)

-- the flat table's own labels
pub own_labels : (t : List ℕ) → IsTable t → IsSound t (λ i. Var (rep t i))
own_labels t is i l = ap Var (sym (is.own i l))

-- ---- progress

pub progress_none : (t : List ℕ) → IsProgress t t false
progress_none t = inl (refl, refl, λ is. refl)

pub progress_then : (a b c : List ℕ) (x y : Bool) → IsProgress a b x → IsProgress b c y → IsProgress a c (x || y)
progress_then a b c x y h k =
    ⊎_elim
    (λ (u : (x ≡ false) × (class_count b ≡ class_count a) × (IsTable a → b ≡ a)).
    ⊎_elim
    (λ (v : (y ≡ false) × (class_count c ≡ class_count b) × (IsTable b → c ≡ b)). inl (ap (λ z. z || y) u.0 ∙ v.0, v.1 ∙ u.1, λ is. let e = u.2 is in v.2 (subst IsTable (sym e) is) ∙ e))
    (λ (v : (y ≡ true) × (class_count c < class_count b)). inr (ap (λ z. z || y) u.0 ∙ v.0, omega (arith, u.1, v.1)))
    k)
    (λ (u : (x ≡ true) × (class_count b < class_count a)).
    ⊎_elim
    (λ (v : (y ≡ false) × (class_count c ≡ class_count b) × (IsTable b → c ≡ b)). inr (ap (λ z. z || y) u.0, omega (arith, u.1, v.1)))
    (λ (v : (y ≡ true) × (class_count c < class_count b)). inr (ap (λ z. z || y) u.0, omega (arith, u.1, v.1)))
    k)
    h

pub progress_shortened : (a b c : List ℕ) (x : Bool) → IsProgress a b x → IsShortened b c → IsProgress a c x
progress_shortened a b c x h s =
    let n = shortened_count b c s in
    ⊎_elim
    (λ (u : (x ≡ false) × (class_count b ≡ class_count a) × (IsTable a → b ≡ a)). inl (u.0, n ∙ u.1, λ is. let e = u.2 is in s.flat (subst IsTable (sym e) is) ∙ e))
    (λ (u : (x ≡ true) × (class_count b < class_count a)). inr (u.0, omega (arith, u.1, n)))
    h

pub progress_same : (old new : List ℕ) (x : Bool) → IsTable old → IsProgress old new x → x ≡ false → new ≡ old
progress_same old new x is p e =
    ⊎_elim
    (λ (u : (x ≡ false) × (class_count new ≡ class_count old) × (IsTable old → new ≡ old)). u.2 is)
    (λ (u : (x ≡ true) × (class_count new < class_count old)). absurd (true≢false (sym u.0 ∙ e)))
    p

pub progress_less : (old new : List ℕ) (x : Bool) → IsProgress old new x → x ≡ true → class_count new < class_count old
progress_less old new x p e =
    ⊎_elim
    (λ (u : (x ≡ false) × (class_count new ≡ class_count old) × (IsTable old → new ≡ old)). absurd (true≢false (sym e ∙ u.0)))
    (λ (u : (x ≡ true) × (class_count new < class_count old)). u.1)
    p

-- ---- two items

-- x has the root left in a, and y has the root right in b
module _ (old a b : List ℕ) (x y left right : ℕ) (s : IsShortened old a) (r : IsShortened a b) (of_x : (label : ℕ → Sym) → IsSound a label → label x ≡ label left) (of_y : (label : ℕ → Sym) → IsSound b label → label y ≡ label right) where
  to_old : (label : ℕ → Sym) → IsSound b label → IsSound old label
  to_old label m = (s.exact label).0 ((r.exact label).0 m)

  to_b : (label : ℕ → Sym) → IsSound old label → IsSound b label
  to_b label m = (r.exact label).1 ((s.exact label).1 m)

  -- where the roots were joined, x and y are
  joined : (c : List ℕ) → IsJoining (λ label. label left ≡ label right) b c → IsJoining (λ label. label x ≡ label y) old c
  joined c j = record {
    same_length = j.same_length ∙ r.same_length ∙ s.same_length;
    ordered = j.ordered;
    exact = λ label. (
      λ m. let w = (j.exact label).0 m in (to_old label w.0, of_x label ((r.exact label).0 w.0) ∙ w.1 ∙ sym (of_y label w.0)),
      λ m. let n = to_b label m.0 in (j.exact label).1 (n, sym (of_x label ((r.exact label).0 n)) ∙ m.1 ∙ of_y label n),
    );
  }

  counts : class_count b ≡ class_count old
  counts = shortened_count a b r ∙ shortened_count old a s

  pub joined_same : left ≡ right → IsJoining (λ label. label x ≡ label y) old b
  joined_same e = joined b (record { same_length = refl; ordered = r.ordered; exact = λ label. (λ m. (m, ap label e), λ m. m.0) })

  pub progress_same_roots : IsProgress old b false
  progress_same_roots = inl (refl, counts, λ is. let e = s.flat is in r.flat (subst IsTable (sym e) is) ∙ e)

  module _ (own_left : rep a left ≡ left) (own_right : rep b right ≡ right) (left_in : left < length old) (right_in : right < length old) where
    still_left : rep b left ≡ left
    still_left = let e = s.same_length in (r.roots left (omega arith)).0 own_left

    abbrev in_b : (k : ℕ) → k < length old → k < length b
    in_b k l = let e = s.same_length in let f = r.same_length in omega arith

    pub joined_left : left < right → IsJoining (λ label. label x ≡ label y) old (set b right left)
    joined_left less =
        let j = link_joining b right left r.ordered own_right still_left less (in_b right right_in) in
        joined (set b right left) (joining_by (λ label. label right ≡ label left) (λ label. label left ≡ label right) b (set b right left) (λ label m. (λ e. sym e, λ e. sym e)) j)

    pub progress_left : left < right → IsProgress old (set b right left) true
    progress_left less = inr (refl, let n = link_fewer b right left r.ordered own_right still_left less (in_b right right_in) in let e = counts in omega arith)

    pub joined_right : right < left → IsJoining (λ label. label x ≡ label y) old (set b left right)
    joined_right less = joined (set b left right) (link_joining b left right r.ordered still_left own_right less (in_b left left_in))

    pub progress_right : right < left → IsProgress old (set b left right) true
    progress_right less = inr (refl, let n = link_fewer b left right r.ordered still_left own_right less (in_b left left_in) in let e = counts in omega arith)
