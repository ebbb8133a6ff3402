-- The symbols of a node and of its branches.
use Rattle.std.proofs.Common.{◌≡◌, ℕ, ◌≤◌, List, [], ◌∷◌, ◌++◌, map, flat_map, get_or, All, refl, sym, ap, subst, ◌∙◌, append_assoc, arith}
use Rattle.std.proofs.lemmas.List.{get_or_default}
use Rattle.std.proofs.lemmas.List.Elements.{All-contains}
use Rattle.su_lex.specs.declared.meaning.Symbol.{Symbol}
use Rattle.su_lex.specs.declared.meaning.Symbol.TheVariants.{Sign}
use Rattle.su_lex.specs.declared.signs.Sign.TheVariants as sign
use Rattle.su_check.specs.declared.nodes.Node.{Node, fold_out-Node, out-Node, roll-Node, out-roll-Node, roll-out-Node}
use Rattle.su_check.specs.declared.nodes.Branch.{Branch, fold-Branch, fold_out-Branch, out-Branch, roll-Branch, out-roll-Branch, roll-out-Branch}
use Rattle.su_check.specs.declared.nodes.Branch.TheOpen.{Branch-F, Node-F}
use Rattle.su_lex.specs.Names.{Begins}
use Rattle.su_check.specs.Refutations.{row_named, branches_of, target_of, node_of}
use Rattle.su_check.specs.NodeSymbols.{number, node_symbols, node_step, branch_step}
use Rattle.su_check.specs.Ranges.{IsByte, IsByteNode, of_bytes}
use Rattle.su_check.proofs.Runs.{Left, next_item, no_item}

abbrev pub branch_symbols : Branch → List Symbol
branch_symbols b = number (target_of b) ∷ node_symbols (node_of b)

abbrev pub IsByteBranch : Branch → Type 0
IsByteBranch b = IsByte (target_of b) × IsByteNode (node_of b)

pub branch_at : (b : Branch) → fold-Branch (List Symbol) (List Symbol) branch_step node_step b ≡ branch_symbols b
branch_at b = fold_out-Branch (List Symbol) (List Symbol) branch_step node_step b

same_branches : (bs : List Branch) → flat_map (λ s. s) (map (fold-Branch (List Symbol) (List Symbol) branch_step node_step) bs) ≡ flat_map branch_symbols bs
same_branches [] = refl
same_branches (b ∷ bs) = let h = branch_at b in let t = same_branches bs in cc

-- a node before what follows it
pub node_at : (n : Node) (r : List Symbol) → node_symbols n ++ r ≡ Sign sign.Open ∷ number (row_named n) ∷ (flat_map branch_symbols (branches_of n) ++ Sign sign.Close ∷ r)
node_at n r =
    ap (λ s. s ++ r) (fold_out-Node (List Symbol) (List Symbol) branch_step node_step n)
    ∙ ap (λ s. Sign sign.Open ∷ number (row_named n) ∷ ((s ++ Sign sign.Close ∷ []) ++ r)) (same_branches (branches_of n))
    ∙ ap (λ s. Sign sign.Open ∷ number (row_named n) ∷ s) (append_assoc (flat_map branch_symbols (branches_of n)) (Sign sign.Close ∷ []) r)

pub byte_row : (n : Node) → IsByteNode n → IsByte (row_named n)
byte_row n (of_bytes _ row targets nodes) = row

pub byte_branches : (n : Node) → IsByteNode n → All IsByteBranch (branches_of n)
byte_branches n (of_bytes _ row targets nodes) k d h = (targets (get_or (branches_of n) k d) (k, h, get_or_default (branches_of n) k (get_or (branches_of n) k d) d h), nodes (get_or (branches_of n) k d) (k, h, get_or_default (branches_of n) k (get_or (branches_of n) k d) d h))

pub byte_node : (n : Node) → IsByte (row_named n) → All IsByteBranch (branches_of n) → IsByteNode n
byte_node n row all = of_bytes n row (λ b has. (All-contains IsByteBranch (branches_of n) b all has).0) (λ b has. (All-contains IsByteBranch (branches_of n) b all has).1)

-- ---- as the reader makes them

pub node_first : (n : Node) (e s r : List Symbol) → e ≡ node_symbols n ++ r → e ≡ Sign sign.Open ∷ s → s ≡ number (row_named n) ∷ (flat_map branch_symbols (branches_of n) ++ Sign sign.Close ∷ r)
node_first n e s r is first =
    let both : Sign sign.Open ∷ s ≡ Sign sign.Open ∷ number (row_named n) ∷ (flat_map branch_symbols (branches_of n) ++ Sign sign.Close ∷ r) = sym first ∙ is ∙ node_at n r in
    cc

pub node_found : (x : Node-F Branch Node) (e s r : List Symbol) → e ≡ Sign sign.Open ∷ number x.row ∷ (flat_map branch_symbols x.next ++ s) → s ≡ Sign sign.Close ∷ r → e ≡ node_symbols (roll-Node x) ++ r
node_found x e s r is end =
    is ∙ ap (λ s. Sign sign.Open ∷ number x.row ∷ (flat_map branch_symbols x.next ++ s)) end
    ∙ sym (node_at (roll-Node x) r ∙ ap (λ y. Sign sign.Open ∷ number y.row ∷ (flat_map branch_symbols y.next ++ Sign sign.Close ∷ r)) (out-roll-Node x))

pub node_bytes : (x : Node-F Branch Node) → IsByte x.row → All IsByteBranch x.next → IsByteNode (roll-Node x)
node_bytes x row all =
    let o = sym (out-roll-Node x) in
    byte_node (roll-Node x) (subst (λ (y : Node-F Branch Node). IsByte y.row) o row) (subst (λ (y : Node-F Branch Node). All IsByteBranch y.next) o all)

pub same_node : (x : Node-F Branch Node) (n : Node) → row_named n ≡ x.row → x.next ≡ branches_of n → roll-Node x ≡ n
same_node x n row next =
    let all : x ≡ out-Node n = ap (λ a. record { row = a; next = x.next }) (sym row) ∙ ap (λ a. record { row = row_named n; next = a }) next in
    ap roll-Node all ∙ roll-out-Node n

pub branch_found : (x : Branch-F Branch Node) (s r : List Symbol) → s ≡ node_symbols x.node ++ r → number x.target ∷ s ≡ branch_symbols (roll-Branch x) ++ r
branch_found x s r is =
    ap (λ s. number x.target ∷ s) is ∙ ap (λ (y : Branch-F Branch Node). number y.target ∷ (node_symbols y.node ++ r)) (sym (out-roll-Branch x))

pub branch_bytes : (x : Branch-F Branch Node) → IsByte x.target → IsByteNode x.node → IsByteBranch (roll-Branch x)
branch_bytes x target node = subst (λ (y : Branch-F Branch Node). IsByte y.target × IsByteNode y.node) (sym (out-roll-Branch x)) (target, node)

pub same_branch : (x : Branch-F Branch Node) (b : Branch) → target_of b ≡ x.target → x.node ≡ node_of b → roll-Branch x ≡ b
same_branch x b target node =
    let all : x ≡ out-Branch b = ap (λ a. record { target = a; node = x.node }) (sym target) ∙ ap (λ a. record { target = target_of b; node = a }) node in
    ap roll-Branch all ∙ roll-out-Branch b

-- a branch is left, as a number stands here
pub branch_next : (all done : List Branch) (e s r : List Symbol) (k : ℕ) → Left branch_symbols IsByteBranch all done e (Sign sign.Close ∷ r) → e ≡ number k ∷ s
    → (b : Branch) × IsByteBranch b × (t : List Symbol) × (s ≡ node_symbols (node_of b) ++ t) × (target_of b ≡ k) × Left branch_symbols IsByteBranch all (done ++ b ∷ []) t (Sign sign.Close ∷ r)
branch_next all done e s r k left here =
    let n = next_item branch_symbols IsByteBranch all done e (Sign sign.Close ∷ r) left (λ same. let clash : number k ∷ s ≡ Sign sign.Close ∷ r = sym here ∙ same in absurd (cc)) in
    let both : number k ∷ s ≡ number (target_of n.item) ∷ (node_symbols (node_of n.item) ++ n.behind) = sym here ∙ n.here in
    let target : target_of n.item ≡ k = cc in
    let behind : s ≡ node_symbols (node_of n.item) ++ n.behind = cc in
    (n.item, n.is_in, n.behind, behind, target, n.left)

pub branch_none : (all done : List Branch) (e r : List Symbol) → Left branch_symbols IsByteBranch all done e (Sign sign.Close ∷ r) → ((k : ℕ) → k ≤ 255 → ¬ (Begins (number k) e)) → (done ≡ all) × (e ≡ Sign sign.Close ∷ r)
branch_none all done e r left none = no_item branch_symbols IsByteBranch all done e (Sign sign.Close ∷ r) (λ b t h is. none (target_of b) (let l = h.0 in omega arith) (node_symbols (node_of b) ++ t, is)) left
