-- Lists of trees, one after another.
use Rattle.std.proofs.Common.{◌≡◌, ◌≢◌, ℕ, suc, ◌+◌, ◌<◌, List, [], ◌∷◌, ◌++◌, take, length, get_or, All, sym, ap, subst, ◌∙◌, arith}
use Rattle.std.specs.Int.{bit_at}
use Rattle.std.specs.List.{AllZip, sum_by}
use Rattle.std.proofs.lemmas.List.{take_more}
use Rattle.std.proofs.lemmas.List.Sums.{sum_by_push}
use Rattle.std.proofs.lemmas.Slice.Zip.{all_zipped_more}
use Rattle.su_base.proofs.AscendingNumbers.{sums_front}
use Rattle.su_base.proofs.Items.{some_item, AllZip-length, AllZip-get_or}
use Rattle.su_map.specs.Lists.{numbers_of}
use Rattle.su_map.proofs.Ranks.{rank_in, rank_at, ranked_at, numbers-more, numbers-none}
use Rattle.su_check.specs.declared.nodes.Node.{Node}
use Rattle.su_check.specs.SentRows.{Lines}
use Rattle.su_min.specs.Kept.{Minimised}
use Rattle.su_refute.specs.Trees.{IsTree, node_count}
use Rattle.su_refute.specs.AllTrees.{IsSound, AreTreesOf, AreTrees, nodes_in, all_nodes, HasMoreNodes}
use Rattle.su_refute.specs.Laws.{MoreNodesAreMoreInAll}
use Rattle.su_refute.proofs.OneTree.{one_tree}
use Rattle.su_refute.proofs.Kept.{kept_trees, front_few}

-- ---- one tree more

pub trees_pushed : (t : Lines) (m row unused left budget : ℕ) (old new : List Node) (n : Node) → bit_at m row ≡ 1 → new ≡ old ++ n ∷ [] → IsTree t row n → left + node_count n ≡ unused
    → AllZip (IsTree t) (numbers_of m row) old → unused + nodes_in old ≡ budget → AllZip (IsTree t) (numbers_of m (row + 1)) new × (left + nodes_in new ≡ budget)
trees_pushed t m row unused left budget old new n one is tree count zip counted =
    let e : row + 1 ≡ suc row = omega arith in
    let s = ap nodes_in is ∙ sum_by_push node_count old n in (
      subst (λ ns. AllZip (IsTree t) (numbers_of m (row + 1)) ns) (sym is) (subst (λ rs. AllZip (IsTree t) rs (old ++ n ∷ [])) (sym (ap (numbers_of m) e ∙ numbers-more m row one)) (all_zipped_more (IsTree t) (numbers_of m row) old row n zip tree)),
      omega arith,
    )

pub trees_kept : (t : Lines) (m row : ℕ) (old new : List Node) → bit_at m row ≢ 1 → new ≡ old → AllZip (IsTree t) (numbers_of m row) old → AllZip (IsTree t) (numbers_of m (row + 1)) new
trees_kept t m row old new none is zip =
    let e : row + 1 ≡ suc row = omega arith in
    subst (λ ns. AllZip (IsTree t) (numbers_of m (row + 1)) ns) (sym is) (subst (λ rs. AllZip (IsTree t) rs old) (sym (ap (numbers_of m) e ∙ numbers-none m row none)) zip)

-- ---- too many nodes

-- a list that goes with a front, and one that goes with the whole
front_over : {A B : Type 0} (R : A → B → Type 0) (f : B → ℕ) (front xs : List A) (ys zs : List B) (a : A) (d : A) (e : B) (unused : ℕ) → ((x : A) (y z : B) → R x y → R x z → f y ≡ f z) → length front < length xs → ((k : ℕ) → k < length front → get_or front k d ≡ get_or xs k d)
    → get_or xs (length front) d ≡ a → ((z : B) → R a z → unused < f z) → AllZip R front ys → AllZip R xs zs → unused + sum_by f ys < sum_by f zs
front_over R f front xs ys zs a d e unused one low same next deeper hy hz =
    let ly = AllZip-length R front ys hy in let lz = AllZip-length R xs zs hz in
    let sums = sums_front f ys zs e (omega arith) (λ k hk.
    let kf : k < length front = omega arith in
    one (get_or xs k d) (get_or ys k e) (get_or zs k e) (subst (λ x. R x (get_or ys k e)) (same k kf) (AllZip-get_or R front ys k d e hy kf)) (AllZip-get_or R xs zs k d e hz (omega arith))) in
    let here : R a (get_or zs (length front) e) = subst (λ x. R x (get_or zs (length front) e)) next (AllZip-get_or R xs zs (length front) d e hz low) in
    let more = deeper (get_or zs (length front) e) here in
    let at = ap (λ k. f (get_or zs k e)) ly in
    omega arith

pub trees_over : (t : Lines) (m n row unused budget : ℕ) (trees others : List Node) → row < n → bit_at m row ≡ 1 → AllZip (IsTree t) (numbers_of m row) trees → unused + nodes_in trees ≡ budget → ((z : Node) → IsTree t row z → unused < node_count z) → AllZip (IsTree t) (numbers_of m n) others → budget < nodes_in others
trees_over t m n row unused budget trees others low one zip counted deeper all =
    let h = rank_in m n row low one in
    let l = AllZip-length (IsTree t) (numbers_of m n) others all in
    let over =
    front_over (IsTree t) node_count (numbers_of m row) (numbers_of m n) trees others row 0 (some_item others (omega arith)) unused (λ r y z ty tz. ap node_count (one_tree t r y [] ty z tz)) h
    (λ k hk. let r = ranked_at m row k hk in let b = r.below in r.is ∙ sym (rank_at m n r.number (omega arith) r.member) ∙ ap (λ k. get_or (numbers_of m n) k 0) r.ranked)
    (rank_at m n row low one) deeper zip all in
    omega arith

-- ---- one tableau more

lists_longer : (minimals : List Minimised) (i : ℕ) (m : Minimised) (old : List (List Node)) (trees : List Node) → i < length minimals → m ≡ get_or minimals i m → AreTreesOf m trees → AreTrees (take i minimals) old → AreTrees (take (i + 1) minimals) (old ++ trees ∷ [])
lists_longer minimals i m old trees h is are before =
    let more : take (i + 1) minimals ≡ take i minimals ++ m ∷ [] = take_more minimals i m h ∙ ap (λ x. take i minimals ++ x ∷ []) (sym is) in
    subst (λ ms. AreTrees ms (old ++ trees ∷ [])) (sym more) (all_zipped_more AreTreesOf (take i minimals) old m trees before are)

pub lists_pushed : (minimals : List Minimised) (i unused left budget : ℕ) (m : Minimised) (old new : List (List Node)) (trees : List Node) → i < length minimals → m ≡ get_or minimals i m → new ≡ old ++ trees ∷ [] → AreTreesOf m trees → left + nodes_in trees ≡ unused
    → AreTrees (take i minimals) old → unused + all_nodes old ≡ budget → AreTrees (take (i + 1) minimals) new × (left + all_nodes new ≡ budget)
lists_pushed minimals i unused left budget m old new trees h is e are count before counted =
    let s = ap all_nodes e ∙ sum_by_push nodes_in old trees in (
      subst (AreTrees (take (i + 1) minimals)) (sym e) (lists_longer minimals i m old trees h is are before),
      omega arith,
    )

pub lists_over : (minimals : List Minimised) (i unused budget : ℕ) (m : Minimised) (lists : List (List Node)) → IsSound m → i < length minimals → m ≡ get_or minimals i m → AreTrees (take i minimals) lists → unused + all_nodes lists ≡ budget → ((trees : List Node) → AreTreesOf m trees → unused < nodes_in trees) → HasMoreNodes minimals budget
lists_over minimals i unused budget m lists sound h is before counted deeper =
    let x = kept_trees m sound.valid sound.small sound.minimised.kept in
    let s = sum_by_push nodes_in lists x.0 in
    let more = deeper x.0 x.1 in
    record { first = i + 1; trees = lists ++ x.0 ∷ []; are_trees = lists_longer minimals i m lists x.0 h is x.1 before; more = omega arith }

-- ---- all tableaux

all_lists : (minimals : List Minimised) → All IsSound minimals → (lists : List (List Node)) × AreTrees minimals lists
all_lists [] sound = ([], tt)
all_lists (m ∷ ms) sound =
    let s = sound 0 m (omega arith) in
    let x = kept_trees m s.valid s.small s.minimised.kept in
    let more = all_lists ms (λ k d h. sound (suc k) d (omega arith)) in
    (x.0 ∷ more.0, (x.1, more.1))

pub more_in_all : MoreNodesAreMoreInAll
more_in_all minimals n sound more =
    let x = all_lists minimals sound in
    let few = front_few minimals more.first more.trees x.0 more.are_trees x.1 in
    let l = more.more in
    record { trees = x.0; are_trees = x.1; more = omega arith }
