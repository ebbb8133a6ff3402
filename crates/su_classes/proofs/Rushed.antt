-- Merging rows that agree on a left side at the right side.
use Rattle.std.proofs.Common.{◌≡◌, ℕ, ◌+◌, ◌<◌, ◌≤◌, ⊎_elim, List, length, get_or, Contains, sym, ap, ◌∙◌, subst, arith}
use Rattle.std.specs.Prelude.{All}
use Rattle.std.proofs.lemmas.Bool.{cases_lt}
use Rattle.std.proofs.lemmas.List.{get_or_default}
use Rattle.std.proofs.lemmas.List.Elements.{All-contains, Contains-get_or}
use Rattle.su_fd.specs.declared.dependencies.Fd.{Fd}
use Rattle.su_tableau.specs.declared.symbols.Sym.{Sym}
use Rattle.su_classes.specs.declared.items.Placed.{Placed}
use Rattle.su_classes.specs.declared.rules.Rule.{Rule}
use Rattle.su_fd.specs.MetDependencies.{LiesIn}
use Rattle.su_classes.specs.Items.{item_of, SameItemLabels, Keeps, IsPlacedBelow}
use Rattle.su_classes.specs.Tables.{IsSound}
use Rattle.su_classes.specs.inside.Tables.{IsForest, IsJoining, IsShortened, IsMerging}
use Rattle.su_classes.specs.inside.Firsts.{AreMembersBelow}
use Rattle.su_classes.proofs.Listed.{left_low}
use Rattle.su_classes.proofs.JoinedRows.{merging_none, merging_then, merging_by, merging_joining, merging_shortened}

-- ---- comparing by roots

-- x has the root left in a, y the root right in b, and the roots are one item
pub same_roots : (old a b : List ℕ) (x y left right : ℕ) → IsShortened old a → IsShortened a b → ((label : ℕ → Sym) → IsSound a label → label x ≡ label left) → ((label : ℕ → Sym) → IsSound b label → label y ≡ label right) → left ≡ right → (label : ℕ → Sym) → IsSound old label → label x ≡ label y
same_roots old a b x y left right s r of_x of_y e label sound =
    let in_a = (s.exact label).1 sound in
    of_x label in_a ∙ ap label e ∙ sym (of_y label ((r.exact label).1 in_a))

-- what holds at the first i elements and at the next one
pub first_more : (Q : ℕ → Type 0) (xs : List ℕ) (i a : ℕ) → i < length xs → a ≡ get_or xs i a → ((k d : ℕ) → k < i → Q (get_or xs k d)) → Q a → (k d : ℕ) → k < i + 1 → Q (get_or xs k d)
first_more Q xs i a l is before here k d below =
    ⊎_elim
    (λ (lt : k < i). before k d lt)
    (λ (ge : i ≤ k).
    let at : i ≡ k = omega arith in
    subst Q (is ∙ get_or_default xs i a d l ∙ ap (λ j. get_or xs j d) at) here)
    (cases_lt k i)

-- ---- merges

-- two items that the property puts together were joined
pub merged_more : (P : (ℕ → Sym) → Type 0) (old t new : List ℕ) (x y : ℕ) → ((label : ℕ → Sym) → P label → label x ≡ label y) → IsMerging P old t → IsJoining (λ label. label x ≡ label y) t new → IsMerging P old new
merged_more P old t new x y forced m j =
    merging_then P old t new m
    (merging_by (λ label. label x ≡ label y) P t new (λ label s p. forced label p) (merging_joining (λ label. label x ≡ label y) t new j))

-- a rule's merges are among those of all rules
pub rule_more : (rows : List Placed) (rules : List Rule) (old t new : List ℕ) (r : Rule) → Contains rules r → IsMerging (λ label. All (λ u. Keeps label rows u.fd) rules) old t → IsMerging (λ label. Keeps label rows r.fd) t new
    → IsMerging (λ label. All (λ u. Keeps label rows u.fd) rules) old new
rule_more rows rules old t new r there m k =
    merging_then (λ label. All (λ u. Keeps label rows u.fd) rules) old t new m
    (merging_by (λ label. Keeps label rows r.fd) (λ label. All (λ u. Keeps label rows u.fd) rules) t new (λ label s p. All-contains (λ u. Keeps label rows u.fd) rules r p there) k)

-- rules of given dependencies
pub rules_given : (rows : List Placed) (fds : List Fd) (rules : List Rule) (old new : List ℕ) → All (λ r. Contains fds r.fd) rules → IsMerging (λ label. All (λ r. Keeps label rows r.fd) rules) old new → IsMerging (λ label. All (Keeps label rows) fds) old new
rules_given rows fds rules old new given m =
    merging_by (λ label. All (λ r. Keeps label rows r.fd) rules) (λ label. All (Keeps label rows) fds) old new
    (λ label s p i d l. All-contains (Keeps label rows) fds (get_or rules i d).fd p (given i d l)) m

-- ---- two rows

module _ (n : ℕ) (f : Fd) (left right : List ℕ) (r q : Placed) (placed : IsPlacedBelow n r) (lies : LiesIn f r.has) (members_left : AreMembersBelow 128 f.left left) (members_right : AreMembersBelow 128 f.right right) where
  same_left : (label : ℕ → Sym) → All (λ a. label (item_of r a) ≡ label (item_of q a)) left → SameItemLabels label f.left r q
  same_left label all a h = All-contains (λ a. label (item_of r a) ≡ label (item_of q a)) left a all ((members_left a).1 (left_low n f r placed lies a h, h))

  same_right : (label : ℕ → Sym) → SameItemLabels label f.right r q → All (λ a. label (item_of r a) ≡ label (item_of q a)) right
  same_right label same i d l = same (get_or right i d) ((members_right (get_or right i d)).0 (Contains-get_or right i d l)).1

  -- rows that agree on the left side were merged at the right side
  pub brought : (old a new : List ℕ) → IsForest old → IsShortened old a → ((label : ℕ → Sym) → IsSound old label → All (λ a. label (item_of r a) ≡ label (item_of q a)) left) → IsMerging (λ label. All (λ a. label (item_of r a) ≡ label (item_of q a)) right) a new
      → IsMerging (λ label. SameItemLabels label f.left r q → SameItemLabels label f.right r q) old new
  brought old a new forest s agree m =
      let P : (ℕ → Sym) → Type 0 = λ label. SameItemLabels label f.left r q → SameItemLabels label f.right r q in
      merging_then P old a new (merging_shortened P old old a (merging_none P old forest) s)
      (merging_by (λ label. All (λ a. label (item_of r a) ≡ label (item_of q a)) right) P a new (λ label sound p. same_right label (p (same_left label (agree label ((s.exact label).0 sound))))) m)

  -- nothing was merged
  pub brought_none : (old a : List ℕ) → IsForest old → IsShortened old a → IsMerging (λ label. SameItemLabels label f.left r q → SameItemLabels label f.right r q) old a
  brought_none old a forest s = merging_shortened (λ label. SameItemLabels label f.left r q → SameItemLabels label f.right r q) old old a (merging_none (λ label. SameItemLabels label f.left r q → SameItemLabels label f.right r q) old forest) s

-- what a dependency says of all rows it says of two of them
pub looked : (rows : List Placed) (f : Fd) (r q : Placed) (old new : List ℕ) → Contains rows r → Contains rows q → LiesIn f r.has → LiesIn f q.has → IsMerging (λ label. SameItemLabels label f.left r q → SameItemLabels label f.right r q) old new → IsMerging (λ label. Keeps label rows f) old new
looked rows f r q old new r_in q_in r_lies q_lies m = merging_by (λ label. SameItemLabels label f.left r q → SameItemLabels label f.right r q) (λ label. Keeps label rows f) old new (λ label s keeps. keeps r q r_in q_in r_lies q_lies) m
