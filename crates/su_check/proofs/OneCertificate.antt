-- Bytes spell one certificate at most.
use Rattle.std.proofs.Common.{◌≡◌, ℕ, suc, List, [], ◌∷◌, ◌++◌, map, flat_map, codes, length, All, Contains, refl, sym, ap, subst, ◌∙◌, append_assoc, arith}
use Rattle.std.proofs.lemmas.List.Elements.{All-head, All-tail}
use Rattle.su_base.proofs.Items.{same_tail}
use Rattle.su_lex.proofs.Written.{one_list_of_symbols}
use Rattle.su_lex.specs.Names.{Begins}
use Rattle.su_lex.specs.declared.meaning.Symbol.{Symbol}
use Rattle.su_lex.specs.declared.meaning.Symbol.TheVariants.{Word, Sign}
use Rattle.su_lex.specs.declared.signs.Sign.TheVariants as sign
use Rattle.su_base.specs.declared.values.Value.TheVariants as value
use Rattle.su_tableau.specs.declared.symbols.Sym.{Sym}
use Rattle.su_tableau.specs.declared.symbols.Sym.TheVariants.{Const, Var}
use Rattle.su_check.specs.declared.certificates.Certificate.{Certificate}
use Rattle.su_check.specs.declared.certificates.StatedTerm.{StatedTerm}
use Rattle.su_check.specs.declared.certificates.RowTree.{RowTree}
use Rattle.su_check.specs.declared.nodes.Node.{Node, out-Node, roll-out-Node}
use Rattle.su_check.specs.declared.nodes.Branch.{Branch, out-Branch, roll-out-Branch}
use Rattle.su_check.specs.Refutations.{row_named, branches_of, target_of, node_of}
use Rattle.su_check.specs.NodeSymbols.{number, sym_symbol, node_symbols}
use Rattle.su_lex.specs.Wordings.{kind_symbol}
use Rattle.su_check.specs.Grammar.{row_line, tree_line, Reads}
use Rattle.su_check.specs.Ranges.{IsByte, IsByteNode, of_bytes, IsNamed, IsTermInRange}
use Rattle.su_check.specs.inside.LineReaders.{EndsTerm, IsRow, IsByteTree, Stops, row_before, tree_before, term_before, term_symbols}
use Rattle.su_check.proofs.Runs.{map_only}
use Rattle.su_check.proofs.Spelled.{one_number, one_kind, one_symbol}
use Rattle.su_check.proofs.NodeSymbols.{branch_symbols, IsByteBranch, node_at, byte_branches, same_node, same_branch}
use Rattle.su_check.proofs.TermSymbols.{term_at, ends_term, certificate_at, stops_rows, stops_word, stops_trees, no_tree, both_trees, both_rows, same_term, stops_terms, same_certificate}

-- ---- lists of items that begin with one symbol, the lead

flat_only : {X : Type 0} (spell : X → List Symbol) (In : X → Type 0) (lead : Symbol) (before : X → List Symbol → List Symbol) → ((x : X) (t : List Symbol) → spell x ++ t ≡ lead ∷ before x t)
    → ((x y : X) (s t : List Symbol) → In x → In y → before x s ≡ before y t → (x ≡ y) × (s ≡ t))
    → (xs ys : List X) (s r : List Symbol) → All In xs → All In ys → ¬ (Begins lead s) → ¬ (Begins lead r) → flat_map spell xs ++ s ≡ flat_map spell ys ++ r → (xs ≡ ys) × (s ≡ r)
flat_only spell In lead before at one [] [] s r hx hy ends ends' e = (refl, e)
flat_only spell In lead before at one [] (y ∷ ys) s r hx hy ends ends' e = absurd (ends (before y (flat_map spell ys ++ r), e ∙ append_assoc (spell y) (flat_map spell ys) r ∙ at y (flat_map spell ys ++ r)))
flat_only spell In lead before at one (x ∷ xs) [] s r hx hy ends ends' e = absurd (ends' (before x (flat_map spell xs ++ s), sym e ∙ append_assoc (spell x) (flat_map spell xs) s ∙ at x (flat_map spell xs ++ s)))
flat_only spell In lead before at one (x ∷ xs) (y ∷ ys) s r hx hy ends ends' e =
    let here = same_tail _ _ _ _ (sym (append_assoc (spell x) (flat_map spell xs) s ∙ at x (flat_map spell xs ++ s)) ∙ e ∙ append_assoc (spell y) (flat_map spell ys) r ∙ at y (flat_map spell ys ++ r)) in
    let o = one x y (flat_map spell xs ++ s) (flat_map spell ys ++ r) (All-head In x xs hx) (All-head In y ys hy) here in
    let m = flat_only spell In lead before at one xs ys s r (All-tail In x xs hx) (All-tail In y ys hy) ends ends' o.1 in
    (ap (λ x. x ∷ xs) o.0 ∙ ap (λ xs. y ∷ xs) m.0, m.1)

-- ---- rows

pub row_at : (row : List Sym) (t : List Symbol) → row_line row ++ t ≡ Sign sign.Open ∷ row_before row t
row_at row t = ap (λ s. Sign sign.Open ∷ s) (append_assoc (map sym_symbol row) (Sign sign.Close ∷ []) t)

stops_close : (r : List Symbol) → Stops sym_symbol IsNamed (Sign sign.Close ∷ r)
stops_close r (Var k) h begins = absurd (cc begins.1)
stops_close r (Const (value.Int n)) h begins = absurd (cc begins.1)
stops_close r (Const (value.Text t)) h begins = absurd (cc begins.1)

row_one : (w : ℕ) (x y : List Sym) (s t : List Symbol) → IsRow w x → IsRow w y → row_before x s ≡ row_before y t → (x ≡ y) × (s ≡ t)
row_one w x y s t hx hy e =
    let m = map_only sym_symbol IsNamed one_symbol x y (Sign sign.Close ∷ s) (Sign sign.Close ∷ t) hx.1 hy.1 (stops_close s) (stops_close t) e in
    (m.0, same_tail _ _ _ _ m.1)

-- ---- nodes

branches_one : (bs cs : List Branch) (s t : List Symbol) → ((b : Branch) → Contains bs b → (n : Node) (s t : List Symbol) → IsByteNode n → node_symbols (node_of b) ++ s ≡ node_symbols n ++ t → (node_of b ≡ n) × (s ≡ t))
    → All IsByteBranch cs → flat_map branch_symbols bs ++ Sign sign.Close ∷ s ≡ flat_map branch_symbols cs ++ Sign sign.Close ∷ t → (bs ≡ cs) × (s ≡ t)
branches_one [] [] s t each hc e = (refl, same_tail _ _ _ _ e)
branches_one [] (c ∷ cs) s t each hc e = absurd (cc)
branches_one (b ∷ bs) [] s t each hc e = absurd (cc)
branches_one (b ∷ bs) (c ∷ cs) s t each hc e =
    let B = flat_map branch_symbols bs ++ Sign sign.Close ∷ s in
    let C = flat_map branch_symbols cs ++ Sign sign.Close ∷ t in
    let both : number (target_of b) ∷ (node_symbols (node_of b) ++ B) ≡ number (target_of c) ∷ (node_symbols (node_of c) ++ C) =
    sym (append_assoc (branch_symbols b) (flat_map branch_symbols bs) (Sign sign.Close ∷ s)) ∙ e ∙ append_assoc (branch_symbols c) (flat_map branch_symbols cs) (Sign sign.Close ∷ t) in
    let target : target_of b ≡ target_of c = cc in
    let o = each b (0, omega arith, refl) (node_of c) B C (All-head IsByteBranch c cs hc).1 (same_tail _ _ _ _ both) in
    let m = branches_one bs cs s t (λ d has. each d (suc has.0, (let l = has.1 in omega arith), has.2)) (All-tail IsByteBranch c cs hc) o.1 in
    let same : b ≡ c = sym (roll-out-Branch b) ∙ same_branch (out-Branch b) c (sym target) o.0 in
    (ap (λ b. b ∷ bs) same ∙ ap (λ bs. c ∷ bs) m.0, m.1)

node_one : (m n : Node) (s t : List Symbol) → IsByteNode m → IsByteNode n → node_symbols m ++ s ≡ node_symbols n ++ t → (m ≡ n) × (s ≡ t)
node_one m n s t (of_bytes _ row targets nodes) hn e =
    let both = sym (node_at m s) ∙ e ∙ node_at n t in
    let second = same_tail _ _ _ _ both in
    let r : row_named m ≡ row_named n = cc in
    let b = branches_one (branches_of m) (branches_of n) s t (λ b has n s t hn e. node_one (node_of b) n s t (nodes b has) hn e) (byte_branches n hn) (same_tail _ _ _ _ second) in
    (sym (roll-out-Node m) ∙ same_node (out-Node m) n (sym r) b.0, b.1)

tree_one : (x y : RowTree) (s t : List Symbol) → IsByteTree x → IsByteTree y → tree_before x s ≡ tree_before y t → (x ≡ y) × (s ≡ t)
tree_one x y s t hx hy e =
    let r : x.row ≡ y.row = cc in
    let m = node_one x.node y.node s t hx.1 hy.1 (same_tail _ _ _ _ e) in
    let same : x ≡ y = ap (λ a. record { row = a; node = x.node }) r ∙ ap (λ a. record { row = y.row; node = a }) m.0 in
    (same, m.1)

-- ---- terms

term_one : (w : ℕ) (x y : StatedTerm) (s t : List Symbol) → IsTermInRange w x → IsTermInRange w y → EndsTerm s → EndsTerm t → term_before x s ≡ term_before y t → (x ≡ y) × (s ≡ t)
term_one w x y s t hx hy ends ends' e =
    let n : x.number ≡ y.number = cc in
    let head = map_only sym_symbol IsNamed one_symbol x.head y.head _ _ hx.head hy.head (stops_rows _) (stops_rows _) (same_tail _ _ _ _ (same_tail _ _ _ _ e)) in
    let rows = flat_only row_line (IsRow w) (Sign sign.Open) row_before row_at (row_one w) x.rows y.rows _ _ (both_rows w x.rows hx.widths hx.rows) (both_rows w y.rows hy.widths hy.rows) (λ begins. absurd (cc begins.1)) (λ begins. absurd (cc begins.1)) (same_tail _ _ _ _ head.1) in
    let kept = map_only number IsByte one_number x.kept y.kept _ _ hx.kept hy.kept (stops_word _ _) (stops_word _ _) (same_tail _ _ _ _ rows.1) in
    let fold = map_only number IsByte one_number x.fold y.fold _ _ hx.fold hy.fold (stops_trees x.trees s ends) (stops_trees y.trees t ends') (same_tail _ _ _ _ kept.1) in
    let trees = flat_only tree_line IsByteTree (Word (codes "tree")) tree_before (λ x t. refl) tree_one x.trees y.trees s t (both_trees x.trees hx.tree_rows hx.trees) (both_trees y.trees hy.tree_rows hy.trees) (no_tree s ends) (no_tree t ends') fold.1 in
    (same_term y _ _ _ _ _ _ n head.0 rows.0 kept.0 fold.0 trees.0, trees.1)

terms_one : (w : ℕ) (xs ys : List StatedTerm) → All (IsTermInRange w) xs → All (IsTermInRange w) ys → flat_map term_symbols xs ++ [] ≡ flat_map term_symbols ys ++ [] → xs ≡ ys
terms_one w [] [] hx hy e = refl
terms_one w [] (y ∷ ys) hx hy e = absurd (cc)
terms_one w (x ∷ xs) [] hx hy e = absurd (cc)
terms_one w (x ∷ xs) (y ∷ ys) hx hy e =
    let here = same_tail _ _ _ _ (sym (append_assoc (term_symbols x) (flat_map term_symbols xs) [] ∙ term_at x (flat_map term_symbols xs ++ [])) ∙ e ∙ append_assoc (term_symbols y) (flat_map term_symbols ys) [] ∙ term_at y (flat_map term_symbols ys ++ [])) in
    let tx = All-tail (IsTermInRange w) x xs hx in
    let ty = All-tail (IsTermInRange w) y ys hy in
    let o = term_one w x y _ _ (All-head (IsTermInRange w) x xs hx) (All-head (IsTermInRange w) y ys hy) (ends_term w xs [] _ (record { more = xs; all_is = refl; rest_is = refl; are = tx })) (ends_term w ys [] _ (record { more = ys; all_is = refl; rest_is = refl; are = ty })) here in
    ap (λ x. x ∷ xs) o.0 ∙ ap (λ xs. y ∷ xs) (terms_one w xs ys tx ty o.1)

-- ---- certificates

pub one_certificate : (bytes : List ℕ) (c d : Certificate) → Reads bytes c → Reads bytes d → c ≡ d
one_certificate bytes c d a b =
    let same = (one_list_of_symbols bytes a.symbols b.symbols a.spelled b.spelled).0 in
    let e = sym (certificate_at c) ∙ sym a.form ∙ same ∙ b.form ∙ certificate_at d in
    let kinds = map_only kind_symbol (λ k. Unit {0}) one_kind c.kinds d.kinds _ _ (λ k d h. tt) (λ k d h. tt) (stops_terms c.terms) (stops_terms d.terms) (same_tail _ _ _ _ (same_tail _ _ _ _ (same_tail _ _ _ _ e))) in
    let terms = terms_one (length d.kinds) c.terms d.terms (subst (λ w. All (IsTermInRange w) c.terms) (ap length kinds.0) a.in_range.terms) b.in_range.terms kinds.1 in
    same_certificate d c.kinds c.terms kinds.0 terms
