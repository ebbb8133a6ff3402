-- Members of lists, and lists of a set's members.
use Rattle.std.proofs.Common.{◌≡◌, ◌≢◌, ℕ, ◌+◌, ◌<◌, ⊎_elim, Bool, true, false, cond, List, [], ◌∷◌, ◌++◌, append-nil, length, get_or, Contains, sym, ap, ◌∙◌, subst, arith}
use Rattle.std.specs.Prelude.{All}
use Rattle.std.specs.Ordering.{nat_cmp}
use Rattle.std.specs.FinSet.{FinSet, contains}
use Rattle.std.proofs.lemmas.Bool.{cases_eq, true≢false}
use Rattle.std.proofs.lemmas.List.Elements.{Contains-append_left, Contains-append_right, Contains-append_cases, Contains-get_or}
use Rattle.su_base.proofs.Subsets.{subset_at}
use Rattle.su_base.proofs.Items.{Contains-cases, Contains-nil}
use Rattle.su_fd.specs.declared.dependencies.Fd.{Fd}
use Rattle.su_classes.specs.declared.items.Placed.{Placed}
use Rattle.su_fd.specs.MetDependencies.{LiesIn}
use Rattle.su_classes.specs.Items.{item_of, IsPlacedBelow}
use Rattle.su_classes.specs.inside.Firsts.{AreMembersBelow}

-- ---- the members of a set below a bound

pub members_none : (s : FinSet nat_cmp) → AreMembersBelow 0 s []
members_none s a = (λ c. absurd (Contains-nil a c), λ h. absurd (let l = h.0 in omega arith))

pub members_push : (s : FinSet nat_cmp) (list : List ℕ) (n : ℕ) → AreMembersBelow n s list → contains s n ≡ true → AreMembersBelow (n + 1) s (list ++ n ∷ [])
members_push s list n h there a = (
  λ c.
      ⊎_elim
      (λ (before : Contains list a). let w = (h a).0 before in ((let l = w.0 in omega arith), w.1))
      (λ (now : Contains (n ∷ []) a).
      ⊎_elim
      (λ (is : n ≡ a). (omega arith, ap (contains s) (sym is) ∙ there))
      (λ (no : Contains [] a). absurd (Contains-nil a no))
      (Contains-cases n [] a now))
      (Contains-append_cases list (n ∷ []) a c),
  λ w.
      ⊎_elim
      (λ (is : a ≡ n). Contains-append_right list (n ∷ []) a (0, omega arith, sym is))
      (λ (no : a ≢ n). Contains-append_left list (n ∷ []) a ((h a).1 ((let l = w.0 in omega arith), w.1)))
      (cases_eq a n),
)

pub members_pass : (s : FinSet nat_cmp) (list : List ℕ) (n : ℕ) → AreMembersBelow n s list → contains s n ≡ false → AreMembersBelow (n + 1) s list
members_pass s list n h out a = (
  λ c. let w = (h a).0 c in ((let l = w.0 in omega arith), w.1),
  λ w.
      ⊎_elim
      (λ (is : a ≡ n). absurd (true≢false (sym w.1 ∙ ap (contains s) is ∙ out)))
      (λ (no : a ≢ n). (h a).1 ((let l = w.0 in omega arith), w.1))
      (cases_eq a n),
)

pub members_if : (s : FinSet nat_cmp) (n : ℕ) (b : Bool) (list new : List ℕ) → AreMembersBelow n s list → b ≡ contains s n → new ≡ list ++ cond b (n ∷ []) [] → AreMembersBelow (n + 1) s new
members_if s n true list new h is e = subst (AreMembersBelow (n + 1) s) (sym e) (members_push s list n h (sym is))
members_if s n false list new h is e = subst (AreMembersBelow (n + 1) s) (sym (e ∙ append-nil list)) (members_pass s list n h (sym is))

-- ---- the attributes of a dependency that lies in a row

module _ (n : ℕ) (f : Fd) (r : Placed) (placed : IsPlacedBelow n r) (lies : LiesIn f r.has) where
  pub left_low : (a : ℕ) → contains f.left a ≡ true → a < 128
  left_low a h = let w = placed.wide a (subset_at f.left r.has a lies.left h) in let k = placed.narrow in omega arith

  pub right_low : (a : ℕ) → contains f.right a ≡ true → a < 128
  right_low a h = let w = placed.wide a (subset_at f.right r.has a lies.right h) in let k = placed.narrow in omega arith

  pub left_cells : (list : List ℕ) → AreMembersBelow 128 f.left list → All (λ a. (a < length r.cells) × (item_of r a < n)) list
  left_cells list members i d l =
      let a = get_or list i d in
      let h = subset_at f.left r.has a lies.left ((members a).0 (Contains-get_or list i d l)).1 in
      (placed.wide a h, placed.below a h)

  pub right_cells : (list : List ℕ) → AreMembersBelow 128 f.right list → All (λ a. (a < length r.cells) × (item_of r a < n)) list
  right_cells list members i d l =
      let a = get_or list i d in
      let h = subset_at f.right r.has a lies.right ((members a).0 (Contains-get_or list i d l)).1 in
      (placed.wide a h, placed.below a h)
