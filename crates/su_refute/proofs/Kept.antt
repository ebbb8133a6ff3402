-- Each kept row has one tree.
use Rattle.std.proofs.Common.{◌≡◌, ℕ, zero, suc, ◌≤◌, List, [], ◌∷◌, take, Contains, refl, ap, arith}
use Rattle.std.specs.Int.{bit_at}
use Rattle.std.specs.List.{AllZip}
use Rattle.std.proofs.lemmas.List.Sums.{sum_by-cons}
use Rattle.su_base.proofs.Items.{Contains-head, Contains-later}
use Rattle.su_tableau.specs.Tableaux.{IsValid, IsSmall}
use Rattle.su_map.specs.Lists.{row_numbers}
use Rattle.su_check.specs.declared.nodes.Node.{Node}
use Rattle.su_check.specs.SentRows.{Lines}
use Rattle.su_min.specs.Kept.{Minimised, IsKept}
use Rattle.su_refute.specs.Trees.{IsTree, node_count}
use Rattle.su_refute.specs.AllTrees.{lines_of, AreTreesOf, AreTrees, nodes_in, all_nodes, HasLargerTree, HasMoreNodes}
use Rattle.su_refute.specs.Laws.{KeptRowsHaveOneTree}
use Rattle.su_refute.proofs.Needed.{needed, begin_small, row_small, ready_first}
use Rattle.su_refute.proofs.SomeTree.{a_tree}
use Rattle.su_refute.proofs.OneTree.{one_tree}
use Rattle.su_map.proofs.RowLists.{of_rows}

pub kept_tree : (m : Minimised) (r : ℕ) → IsValid m.tableau → IsSmall m.tableau → IsKept m.tableau m.mask → bit_at m.mask r ≡ 1 → (n : Node) × IsTree (lines_of m) r n
kept_tree m r valid small kept one =
    a_tree (lines_of m) r (ready_first m.tableau m.mask valid) (needed m.tableau m.mask r kept (begin_small m.tableau m.mask small kept) (row_small m.tableau m.mask r small kept one).1 one)

-- ---- all kept rows

trees_there : (t : Lines) (rs : List ℕ) → ((r : ℕ) → Contains rs r → (n : Node) × IsTree t r n) → (trees : List Node) × AllZip (IsTree t) rs trees
trees_there t [] f = ([], tt)
trees_there t (r ∷ rs) f = let x = f r (Contains-head r rs) in let more = trees_there t rs (λ q h. f q (Contains-later r rs q h)) in (x.0 ∷ more.0, (x.1, more.1))

pub kept_trees : (m : Minimised) → IsValid m.tableau → IsSmall m.tableau → IsKept m.tableau m.mask → (trees : List Node) × AreTreesOf m trees
kept_trees m valid small kept = trees_there (lines_of m) (row_numbers m.tableau m.mask) (λ r has. kept_tree m r valid small kept (of_rows m.tableau m.mask r has).1)

pub one_list : (t : Lines) (rs : List ℕ) (trees others : List Node) → AllZip (IsTree t) rs trees → AllZip (IsTree t) rs others → trees ≡ others
one_list t [] [] [] h k = refl
one_list t [] [] (o ∷ os) h k = absurd k
one_list t [] (n ∷ ns) os h k = absurd h
one_list t (r ∷ rs) [] os h k = absurd h
one_list t (r ∷ rs) (n ∷ ns) [] h k = absurd k
one_list t (r ∷ rs) (n ∷ ns) (o ∷ os) h k = let e = one_tree t r n [] h.0 o k.0 in let es = one_list t rs ns os h.1 k.1 in cc

pub one_lists : (ms : List Minimised) (lists others : List (List Node)) → AreTrees ms lists → AreTrees ms others → lists ≡ others
one_lists [] [] [] h k = refl
one_lists [] [] (o ∷ os) h k = absurd k
one_lists [] (n ∷ ns) os h k = absurd h
one_lists (m ∷ ms) [] os h k = absurd h
one_lists (m ∷ ms) (n ∷ ns) [] h k = absurd k
one_lists (m ∷ ms) (n ∷ ns) (o ∷ os) h k = let e = one_list (lines_of m) (row_numbers m.tableau m.mask) n o h.0 k.0 in let es = one_lists ms ns os h.1 k.1 in cc

-- ---- no more nodes than there are

pub no_larger : (m : Minimised) (r budget : ℕ) (n : Node) → IsTree (lines_of m) r n → node_count n ≤ budget → HasLargerTree m r budget → ⊥
no_larger m r budget n is within more = let e = ap node_count (one_tree (lines_of m) r n [] is more.tree more.is_tree) in let l = more.more in absurd (omega arith)

-- the trees of the first tableaux have no more nodes than those of all
pub front_few : (ms : List Minimised) (k : ℕ) (front lists : List (List Node)) → AreTrees (take k ms) front → AreTrees ms lists → all_nodes front ≤ all_nodes lists
front_few ms zero [] lists h are = omega arith
front_few ms zero (f ∷ fs) lists h are = absurd h
front_few [] (suc k) [] lists h are = omega arith
front_few [] (suc k) (f ∷ fs) lists h are = absurd h
front_few (m ∷ ms) (suc k) [] lists h are = absurd h
front_few (m ∷ ms) (suc k) (f ∷ fs) [] h are = absurd are
front_few (m ∷ ms) (suc k) (f ∷ fs) (l ∷ ls) h are =
    let e = ap nodes_in (one_list (lines_of m) (row_numbers m.tableau m.mask) f l h.0 are.0) in
    let few = front_few ms k fs ls h.1 are.1 in
    let a = sum_by-cons nodes_in f fs in let b = sum_by-cons nodes_in l ls in
    omega arith

pub no_more : (ms : List Minimised) (budget : ℕ) (lists : List (List Node)) → AreTrees ms lists → all_nodes lists ≤ budget → HasMoreNodes ms budget → ⊥
no_more ms budget lists are within more = let few = front_few ms more.first more.trees lists more.are_trees are in let l = more.more in absurd (omega arith)

pub has_one_tree : KeptRowsHaveOneTree
has_one_tree m r sound one = let x = kept_tree m r sound.valid sound.small sound.minimised.kept one in record { tree = x.0; is_tree = x.1; only = λ o h. one_tree (lines_of m) r x.0 [] x.1 o h }
