-- There is one tree at most.
use Rattle.std.proofs.Common.{◌≡◌, ℕ, ◌+◌, ◌<◌, ◌≤◌, List, [], ◌∷◌, map, length, get_or, Contains, refl, sym, ap, subst, ◌∙◌, ⊎_elim, arith}
use Rattle.std.proofs.lemmas.List.{length-map, get_or-map, same_lists}
use Rattle.std.specs.List.{sum_by}
use Rattle.std.proofs.lemmas.List.Sums.{sum-map, sum_by-cons}
use Rattle.std.proofs.lemmas.List.Elements.{Contains-get_or}
use Rattle.su_base.specs.Lists.{AreExactly}
use Rattle.su_base.proofs.AscendingNumbers.{exactly_one}
use Rattle.su_check.specs.declared.sending.Sent.{Sent}
use Rattle.su_check.specs.declared.nodes.Node.{Node, roll-Node, out-roll-Node, roll-out-Node, fold_out-Node}
use Rattle.su_check.specs.declared.nodes.Branch.{Branch, roll-Branch, roll-out-Branch, fold-Branch, fold_out-Branch}
use Rattle.su_check.specs.SentRows.{Lines, sent_too}
use Rattle.su_check.specs.Refutations.{IsOpen, IsFitting, refuting, row_named, branches_of, target_of, node_of}
use Rattle.su_refute.specs.Trees.{IsFewest, IsTreeAt, count_step, node_count}

-- ---- a node and what it holds

abbrev pub made : ℕ → List Branch → Node
made row next = roll-Node (record { row = row; next = next })

pub made_row : (row : ℕ) (next : List Branch) → row_named (made row next) ≡ row
made_row row next = ap (λ x. x.row) (out-roll-Node (record { row = row; next = next }))

pub made_next : (row : ℕ) (next : List Branch) → branches_of (made row next) ≡ next
made_next row next = ap (λ x. x.next) (out-roll-Node (record { row = row; next = next }))

abbrev pub made_branch : ℕ → Node → Branch
made_branch target node = roll-Branch (record { target = target; node = node })

abbrev pub branch_count : Branch → ℕ
branch_count b = node_count (node_of b)

sums_same : {X : Type 0} (f g : X → ℕ) (xs : List X) → ((x : X) → f x ≡ g x) → sum_by f xs ≡ sum_by g xs
sums_same f g [] same = refl
sums_same f g (x ∷ xs) same = let i = sums_same f g xs same in let e = same x in let a = sum_by-cons f x xs in let b = sum_by-cons g x xs in omega arith

fold_branch : (b : Branch) → fold-Branch ℕ ℕ (λ b. b.node) count_step b ≡ branch_count b
fold_branch b = fold_out-Branch ℕ ℕ (λ b. b.node) count_step b

pub count_node : (n : Node) → node_count n ≡ 1 + sum_by branch_count (branches_of n)
count_node n =
    let f = fold-Branch ℕ ℕ (λ b. b.node) count_step in
    fold_out-Node ℕ ℕ (λ b. b.node) count_step n ∙ ap (λ (s : ℕ). 1 + s) (sum-map f (branches_of n) ∙ sums_same f branch_count (branches_of n) fold_branch)

pub count_made : (row : ℕ) (next : List Branch) → node_count (made row next) ≡ 1 + sum_by branch_count next
count_made row next = count_node (made row next) ∙ ap (λ bs. 1 + sum_by branch_count bs) (made_next row next)

node_same : (n m : Node) → row_named n ≡ row_named m → branches_of n ≡ branches_of m → n ≡ m
node_same n m er eb =
    sym (roll-out-Node n) ∙ ap (λ (s : ℕ). made s (branches_of n)) er ∙ ap (made (row_named m)) eb ∙ roll-out-Node m

branch_same : (b d : Branch) → target_of b ≡ target_of d → node_of b ≡ node_of d → b ≡ d
branch_same b d et en =
    sym (roll-out-Branch b) ∙ ap (λ (j : ℕ). made_branch j (node_of b)) et ∙ ap (made_branch (target_of d)) en ∙ roll-out-Branch d

-- ---- what a tree tells

pub tree_open : (t : Lines) (r : ℕ) (n : Node) (p : List Sent) → IsTreeAt t r n p → IsOpen t p (row_named n)
tree_open t r n p (refuting _ _ open' fewest exact each) = open'

pub tree_fewest : (t : Lines) (r : ℕ) (n : Node) (p : List Sent) → IsTreeAt t r n p → IsFewest t r p (row_named n)
tree_fewest t r n p (refuting _ _ open' fewest exact each) = fewest

pub tree_targets : (t : Lines) (r : ℕ) (n : Node) (p : List Sent) → IsTreeAt t r n p → AreExactly (IsFitting t r p (row_named n)) (map target_of (branches_of n))
tree_targets t r n p (refuting _ _ open' fewest exact each) = exact

pub tree_each : (t : Lines) (r : ℕ) (n : Node) (p : List Sent) → IsTreeAt t r n p → (b : Branch) → Contains (branches_of n) b → IsTreeAt t r (node_of b) (sent_too p (row_named n) (target_of b))
tree_each t r n p (refuting _ _ open' fewest exact each) = each

pub tree_made : (t : Lines) (r : ℕ) (p : List Sent) (row : ℕ) (next : List Branch) → IsOpen t p row → IsFewest t r p row → AreExactly (IsFitting t r p row) (map target_of next)
    → ((b : Branch) → Contains next b → IsTreeAt t r (node_of b) (sent_too p row (target_of b))) → IsTreeAt t r (made row next) p
tree_made t r p row next open' fewest exact each =
    let er = made_row row next in let eb = made_next row next in
    refuting (made row next) p (rw er open') (rw er fewest) (rw (er, eb) exact) (λ b has. rw er (each b (subst (λ bs. Contains bs b) eb has)))

-- the fewest is one row
pub one_row : (t : Lines) (r : ℕ) (p : List Sent) (s q : ℕ) (js ks : List ℕ) → IsOpen t p s → IsOpen t p q → IsFewest t r p s → IsFewest t r p q → AreExactly (IsFitting t r p s) js → AreExactly (IsFitting t r p q) ks → s ≡ q
one_row t r p s q js ks os oq fs fq ejs eks =
    let a = fs q js ks oq ejs eks in
    let b = fq s ks js os eks ejs in
    ⊎_elim
    (λ (lt : length js < length ks).
    ⊎_elim
    (λ (l : length ks < length js). absurd (omega arith))
    (λ (l : (length ks ≡ length js) × (q ≤ s)). absurd (let e = l.0 in omega arith))
    b)
    (λ (x : (length js ≡ length ks) × (s ≤ q)).
    ⊎_elim
    (λ (l : length ks < length js). absurd (let e = x.0 in omega arith))
    (λ (l : (length ks ≡ length js) × (q ≤ s)). let u = x.1 in let v = l.1 in let e : s ≡ q = omega arith in e)
    b)
    a

pub one_tree : (t : Lines) (r : ℕ) (n : Node) (p : List Sent) → IsTreeAt t r n p → (m : Node) → IsTreeAt t r m p → n ≡ m
one_tree t r n p (refuting _ _ open' fewest exact each) m h =
    let er : row_named n ≡ row_named m = one_row t r p (row_named n) (row_named m) (map target_of (branches_of n)) (map target_of (branches_of m)) open' (tree_open t r m p h) fewest (tree_fewest t r m p h) exact (tree_targets t r m p h) in
    let exact' : AreExactly (IsFitting t r p (row_named n)) (map target_of (branches_of m)) = subst (λ s. AreExactly (IsFitting t r p s) (map target_of (branches_of m))) (sym er) (tree_targets t r m p h) in
    let et = exactly_one (IsFitting t r p (row_named n)) (map target_of (branches_of n)) (map target_of (branches_of m)) exact exact' in
    let len = ap length et in
    let ln = length-map (branches_of n) target_of in let lm = length-map (branches_of m) target_of in
    let eb : branches_of n ≡ branches_of m =
    same_lists (branches_of n) (branches_of m) (omega arith) (λ k d hk.
    let b = get_or (branches_of n) k d in let b' = get_or (branches_of m) k d in
    let hm : k < length (branches_of m) = omega arith in
    let target : target_of b ≡ target_of b' = sym (get_or-map target_of (branches_of n) k d 0 hk) ∙ ap (λ xs. get_or xs k 0) et ∙ get_or-map target_of (branches_of m) k d 0 hm in
    let below : IsTreeAt t r (node_of b') (sent_too p (row_named n) (target_of b)) = subst (λ s. IsTreeAt t r (node_of b') (sent_too p s (target_of b))) (sym er) (subst (λ j. IsTreeAt t r (node_of b') (sent_too p (row_named m) j)) (sym target) (tree_each t r m p h b' (Contains-get_or (branches_of m) k d hm))) in
    branch_same b b' target (one_tree t r (node_of b) (sent_too p (row_named n) (target_of b)) (each b (Contains-get_or (branches_of n) k d hk)) (node_of b') below)) in
    node_same n m er eb
