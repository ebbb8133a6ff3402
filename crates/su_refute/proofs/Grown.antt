-- What the making of a tree has made, target after target.
use Rattle.std.proofs.Common.{◌≡◌, ◌≢◌, ℕ, ◌+◌, ◌<◌, ◌≤◌, ◌↔◌, List, [], ◌∷◌, ◌++◌, map, length, get_or, Contains, sym, ap, subst, ◌∙◌, ⊎_elim, arith}
use Rattle.std.specs.Int.{bit_at}
use Rattle.std.specs.List.{sum_by}
use Rattle.std.proofs.lemmas.List.{length-map, get_or-map, map_push}
use Rattle.std.proofs.lemmas.List.Sums.{sum_by_push}
use Rattle.std.proofs.lemmas.List.Elements.{Contains-get_or, Contains-push_cases}
use Rattle.su_base.specs.Lists.{AreExactly}
use Rattle.su_base.proofs.AscendingNumbers.{exactly_as, exactly_all, exactly_more, exactly_skip, front_below, sums_front}
use Rattle.su_map.specs.Lists.{numbers_of}
use Rattle.su_check.specs.declared.sending.Sent.{Sent}
use Rattle.su_check.specs.declared.nodes.Node.{Node}
use Rattle.su_check.specs.declared.nodes.Branch.{Branch, out-roll-Branch}
use Rattle.su_check.specs.SentRows.{Lines, sent_too}
use Rattle.su_check.specs.Refutations.{IsOpen, IsFitting, row_named, branches_of, target_of, node_of}
use Rattle.su_refute.specs.declared.nets.Net.{Net}
use Rattle.su_refute.specs.Trees.{IsFewest, IsTreeAt, node_count}
use Rattle.su_refute.specs.Trees.{lines_in}
use Rattle.su_refute.specs.inside.Positions.{IsAt, Stands, IsFewestOf, IsTreeFor}
use Rattle.su_refute.proofs.MemberCounts.{all_members}
use Rattle.su_refute.proofs.TreeSoFar.{at_next, left_small, fewest_is, fitting_in, open_in}
use Rattle.su_refute.proofs.OneTree.{made, branch_count, made_branch, one_row, one_tree, tree_open, tree_fewest, tree_targets, tree_each, tree_made, count_node}

-- how it stands when row s goes to target j
abbrev pub next_of : (net : Net) (todo rest : ℕ) (left next : List ℕ) (s j : ℕ) (was : Stands net todo left) → length next ≡ length left → IsAt was.tableau was.mask was.left_out (sent_too was.sent s j) rest next → Stands net rest next
next_of net todo rest left next s j was len at = record {
  tableau = was.tableau;
  mask = was.mask;
  left_out = was.left_out;
  sent = sent_too was.sent s j;
  small = was.small;
  one_each = len ∙ was.one_each;
  is_net = was.is_net;
  is_at = at;
  needed = was.needed;
}

abbrev pub stands_next : (net : Net) (todo rest : ℕ) (left next : List ℕ) (s j : ℕ) (was : Stands net todo left) → bit_at todo s ≡ 1 → bit_at (get_or left s 0) j ≡ 1 → ((q : ℕ) → q ≢ s → bit_at rest q ≡ bit_at todo q) → bit_at rest s ≡ 0 → length next ≡ length left
    → ((q i : ℕ) → q < length left → (bit_at (get_or next q 0) i ≡ 1) ↔ ((bit_at (get_or left q 0) i ≡ 1) × (bit_at (get_or (get_or (get_or net.agree s []) j []) q 0) i ≡ 1))) → Stands net rest next
stands_next net todo rest left next s j was one bit same out len both =
    next_of net todo rest left next s j was len (at_next net was.tableau was.mask was.left_out was.sent todo rest left next s j was.is_net was.is_at was.one_each one bit same out both)

-- the sizes of the net's tables
pub row_in : (net : Net) (todo : ℕ) (left : List ℕ) (s : Stands net todo left) (row : ℕ) → bit_at todo row ≡ 1 → row < length net.agree
row_in net todo left s row b = let h = (open_in s.tableau s.mask s.sent row ((s.is_at.open_rows row).0 b)).0 in let e = s.is_net.lists in omega arith

pub target_in : (net : Net) (todo : ℕ) (left : List ℕ) (s : Stands net todo left) (row : ℕ) → bit_at todo row ≡ 1 → length (get_or net.agree row []) ≡ length left
target_in net todo left s row b = let h = open_in s.tableau s.mask s.sent row ((s.is_at.open_rows row).0 b) in let e = (s.is_net.agree row h.0 h.1).one_each in let l = s.one_each in omega arith

pub sets_in : (net : Net) (todo : ℕ) (left : List ℕ) (s : Stands net todo left) (row j : ℕ) → bit_at todo row ≡ 1 → j < length left → length (get_or (get_or net.agree row []) j []) ≡ length left
sets_in net todo left s row j b hj = let h = open_in s.tableau s.mask s.sent row ((s.is_at.open_rows row).0 b) in let l = s.one_each in let e = ((s.is_net.agree row h.0 h.1).told j (omega arith)).one_each in omega arith

-- the targets of the row that is named, as its set has them
pub as_set : (net : Net) (todo : ℕ) (left : List ℕ) (s : Stands net todo left) (row : ℕ) → bit_at todo row ≡ 1 → (xs : List ℕ) → AreExactly (λ j. bit_at (get_or left row 0) j ≡ 1) xs → AreExactly (IsFitting (lines_in s.tableau s.mask) s.left_out s.sent row) xs
as_set net todo left s row b xs h = exactly_as (λ j. bit_at (get_or left row 0) j ≡ 1) (IsFitting (lines_in s.tableau s.mask) s.left_out s.sent row) xs (λ i. s.is_at.targets row i b) h

pub all_targets : (net : Net) (todo : ℕ) (left : List ℕ) (s : Stands net todo left) (row : ℕ) → bit_at todo row ≡ 1 → AreExactly (IsFitting (lines_in s.tableau s.mask) s.left_out s.sent row) (numbers_of (get_or left row 0) 64)
all_targets net todo left s row b = as_set net todo left s row b (numbers_of (get_or left row 0) 64) (all_members (get_or left row 0) (left_small net todo left s row b))

-- the tree that is made when all targets are passed
pub tree_grown : (net : Net) (todo : ℕ) (left : List ℕ) (s : Stands net todo left) (row : ℕ) (next : List Branch) (end : ℕ) → IsFewestOf left todo row → length left ≤ end
    → AreExactly (λ j. (j < end) × (bit_at (get_or left row 0) j ≡ 1)) (map target_of next)
    → ((b : Branch) → Contains next b → IsTreeAt (lines_in s.tableau s.mask) s.left_out (node_of b) (sent_too s.sent row (target_of b))) → IsTreeFor net todo left s (made row next)
tree_grown net todo left s row next end fewest over targets trees =
    let one = fewest.member in
    tree_made (lines_in s.tableau s.mask) s.left_out s.sent row next ((s.is_at.open_rows row).0 one) (fewest_is net todo left s row fewest)
    (as_set net todo left s row one (map target_of next) (exactly_all (λ j. bit_at (get_or left row 0) j ≡ 1) end (map target_of next) (λ j b. let h = (fitting_in s.tableau s.mask s.left_out s.sent row j ((s.is_at.targets row j one).0 b)).0 in let e = s.one_each in omega arith) targets))
    trees

-- ---- one branch more

pub branch_target : (j : ℕ) (n : Node) → target_of (made_branch j n) ≡ j
branch_target j n = ap (λ x. x.target) (out-roll-Branch (record { target = j; node = n }))

pub branch_node : (j : ℕ) (n : Node) → node_of (made_branch j n) ≡ n
branch_node j n = ap (λ x. x.node) (out-roll-Branch (record { target = j; node = n }))

pub targets_more : (set j : ℕ) (old new : List Branch) (n : Node) → new ≡ old ++ made_branch j n ∷ [] → bit_at set j ≡ 1 → AreExactly (λ i. (i < j) × (bit_at set i ≡ 1)) (map target_of old) → AreExactly (λ i. (i < j + 1) × (bit_at set i ≡ 1)) (map target_of new)
targets_more set j old new n is one h =
    let e : map target_of new ≡ map target_of old ++ j ∷ [] = ap (map target_of) is ∙ map_push target_of old (made_branch j n) ∙ ap (λ i. map target_of old ++ i ∷ []) (branch_target j n) in
    subst (AreExactly (λ i. (i < j + 1) × (bit_at set i ≡ 1))) (sym e) (exactly_more (λ i. bit_at set i ≡ 1) j (map target_of old) one h)

pub targets_same : (set j : ℕ) (old new : List Branch) → new ≡ old → bit_at set j ≢ 1 → AreExactly (λ i. (i < j) × (bit_at set i ≡ 1)) (map target_of old) → AreExactly (λ i. (i < j + 1) × (bit_at set i ≡ 1)) (map target_of new)
targets_same set j old new is none h =
    subst (λ bs. AreExactly (λ i. (i < j + 1) × (bit_at set i ≡ 1)) (map target_of bs)) (sym is) (exactly_skip (λ i. bit_at set i ≡ 1) j (map target_of old) none h)

pub counted_more : (j : ℕ) (old new : List Branch) (n : Node) (unused left budget : ℕ) → new ≡ old ++ made_branch j n ∷ [] → unused + (1 + sum_by branch_count old) ≡ budget → left + node_count n ≡ unused → left + (1 + sum_by branch_count new) ≡ budget
counted_more j old new n unused left budget is before here =
    let a = ap (sum_by branch_count) is ∙ sum_by_push branch_count old (made_branch j n) in
    let b = ap node_count (branch_node j n) in
    omega arith

pub trees_more : (t : Lines) (r : ℕ) (p : List Sent) (row j : ℕ) (old new : List Branch) (n : Node) → new ≡ old ++ made_branch j n ∷ [] → ((b : Branch) → Contains old b → IsTreeAt t r (node_of b) (sent_too p row (target_of b))) → IsTreeAt t r n (sent_too p row j)
    → (b : Branch) → Contains new b → IsTreeAt t r (node_of b) (sent_too p row (target_of b))
trees_more t r p row j old new n is before here b has =
    let P : Branch → Type 0 = λ b. IsTreeAt t r (node_of b) (sent_too p row (target_of b)) in
    ⊎_elim
    (λ (o : Contains old b). before b o)
    (λ (e : made_branch j n ≡ b). subst P e (rw (branch_node j n, branch_target j n) here))
    (Contains-push_cases old (made_branch j n) b (subst (λ bs. Contains bs b) is has))

-- ---- too many nodes

some_branch : (bs : List Branch) → 0 < length bs → Branch
some_branch [] h = absurd (omega arith)
some_branch (b ∷ bs) h = b

pub over_more : (t : Lines) (r : ℕ) (p : List Sent) (row j : ℕ) (next : List Branch) (unused budget : ℕ) (all : List ℕ) (n : Node) → IsTreeAt t r n p → IsOpen t p row → IsFewest t r p row → AreExactly (IsFitting t r p row) all
    → AreExactly (λ i. (i < j) × IsFitting t r p row i) (map target_of next) → IsFitting t r p row j → ((b : Branch) → Contains next b → IsTreeAt t r (node_of b) (sent_too p row (target_of b)))
    → ((m : Node) → IsTreeAt t r m (sent_too p row j) → unused < node_count m) → unused + (1 + sum_by branch_count next) ≡ budget → budget < node_count n
over_more t r p row j next unused budget all n h open' fewest exact front fit trees deeper counted =
    let er : row_named n ≡ row = one_row t r p (row_named n) row (map target_of (branches_of n)) all (tree_open t r n p h) open' (tree_fewest t r n p h) fewest (tree_targets t r n p h) exact in
    let targets : AreExactly (IsFitting t r p row) (map target_of (branches_of n)) = subst (λ s. AreExactly (IsFitting t r p s) (map target_of (branches_of n))) er (tree_targets t r n p h) in
    let each = λ (b : Branch) (has : Contains (branches_of n) b). subst (λ s. IsTreeAt t r (node_of b) (sent_too p s (target_of b))) er (tree_each t r n p h b has) in
    let ls = length-map next target_of in let ln = length-map (branches_of n) target_of in
    let f =
    front_below (map target_of next) (map target_of (branches_of n)) j front.ascends targets.ascends (λ i. (
      λ has. let a = (front.members i).0 has in (a.0, (targets.members i).1 a.1),
      λ a. (front.members i).1 (a.0, (targets.members i).0 a.1),
    )) ((targets.members j).1 fit) in
    let low : length next < length (branches_of n) = let l = f.shorter in omega arith in
    let d = some_branch (branches_of n) (omega arith) in
    let b = get_or (branches_of n) (length next) d in
    let eb : target_of b ≡ j = sym (get_or-map target_of (branches_of n) (length next) d 0 low) ∙ ap (λ k. get_or (map target_of (branches_of n)) k 0) (sym ls) ∙ f.next in
    let more = deeper (node_of b) (subst (λ i. IsTreeAt t r (node_of b) (sent_too p row i)) eb (each b (Contains-get_or (branches_of n) (length next) d low))) in
    let sums = sums_front branch_count next (branches_of n) d low (λ k hk.
    let x = get_or next k d in let y = get_or (branches_of n) k d in
    let hy : k < length (branches_of n) = omega arith in
    let et : target_of x ≡ target_of y = sym (get_or-map target_of next k d 0 hk) ∙ f.same k (omega arith) ∙ get_or-map target_of (branches_of n) k d 0 hy in
    let tx = trees x (Contains-get_or next k d hk) in
    let ty = subst (λ i. IsTreeAt t r (node_of y) (sent_too p row i)) (sym et) (each y (Contains-get_or (branches_of n) k d hy)) in
    ap node_count (one_tree t r (node_of x) (sent_too p row (target_of x)) tx (node_of y) ty)) in
    let count = count_node n in
    omega arith

-- ---- one target more, as the test reads it

-- the tree of the longer list, where the lists are as they were passed
pub tree_below : (net : Net) (todo rest : ℕ) (left next passed : List ℕ) (row j : ℕ) (s : Stands net todo left) (n : Node) → passed ≡ next → IsFewestOf left todo row → bit_at (get_or left row 0) j ≡ 1 → ((q : ℕ) → q ≢ row → bit_at rest q ≡ bit_at todo q) → bit_at rest row ≡ 0 → length next ≡ length left
    → ((q i : ℕ) → q < length left → (bit_at (get_or next q 0) i ≡ 1) ↔ ((bit_at (get_or left q 0) i ≡ 1) × (bit_at (get_or (get_or (get_or net.agree row []) j []) q 0) i ≡ 1)))
    → ((s' : Stands net rest passed) → IsTreeFor net rest passed s' n) → IsTreeAt (lines_in s.tableau s.mask) s.left_out n (sent_too s.sent row j)
tree_below net todo rest left next passed row j s n is fewest bit same out len both tree =
    subst (λ (xs : List ℕ). (s' : Stands net rest xs) → IsTreeFor net rest xs s' n) is tree (stands_next net todo rest left next row j s fewest.member bit same out len both)

pub over_grown : (net : Net) (todo rest : ℕ) (left next passed : List ℕ) (row j : ℕ) (branches : List Branch) (unused budget : ℕ) (s : Stands net todo left) (n : Node) → passed ≡ next → IsFewestOf left todo row → bit_at (get_or left row 0) j ≡ 1 → ((q : ℕ) → q ≢ row → bit_at rest q ≡ bit_at todo q) → bit_at rest row ≡ 0 → length next ≡ length left
    → ((q i : ℕ) → q < length left → (bit_at (get_or next q 0) i ≡ 1) ↔ ((bit_at (get_or left q 0) i ≡ 1) × (bit_at (get_or (get_or (get_or net.agree row []) j []) q 0) i ≡ 1)))
    → AreExactly (λ i. (i < j) × (bit_at (get_or left row 0) i ≡ 1)) (map target_of branches)
    → ((b : Branch) → Contains branches b → IsTreeAt (lines_in s.tableau s.mask) s.left_out (node_of b) (sent_too s.sent row (target_of b)))
    → unused + (1 + sum_by branch_count branches) ≡ budget
    → ((s' : Stands net rest passed) (m : Node) → IsTreeFor net rest passed s' m → unused < node_count m) → IsTreeFor net todo left s n → budget < node_count n
over_grown net todo rest left next passed row j branches unused budget s n is fewest bit same out len both targets trees counted deeper tree =
    let L = lines_in s.tableau s.mask in
    let one = fewest.member in
    over_more L s.left_out s.sent row j branches unused budget (numbers_of (get_or left row 0) 64) n tree ((s.is_at.open_rows row).0 one) (fewest_is net todo left s row fewest) (all_targets net todo left s row one)
    (exactly_as (λ i. (i < j) × (bit_at (get_or left row 0) i ≡ 1)) (λ i. (i < j) × IsFitting L s.left_out s.sent row i) (map target_of branches) (λ i. (λ a. (a.0, (s.is_at.targets row i one).0 a.1), λ a. (a.0, (s.is_at.targets row i one).1 a.1))) targets)
    ((s.is_at.targets row j one).0 bit) trees
    (λ m below. subst (λ (xs : List ℕ). (s' : Stands net rest xs) (m : Node) → IsTreeFor net rest xs s' m → unused < node_count m) is deeper (stands_next net todo rest left next row j s one bit same out len both) m below)
    counted
