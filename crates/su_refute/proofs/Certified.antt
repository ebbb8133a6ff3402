-- What is written of minimised tableaux with their trees is good.
use Rattle.std.proofs.Common.{◌≡◌, ℕ, zero, suc, ◌+◌, ◌<◌, ◌≤◌, ◌^◌, List, [], ◌∷◌, ◌++◌, map, flat_map, length, get_or, slice_get, Some, codes, All, Contains, refl, sym, ap, subst, ◌∙◌, arith}
use Rattle.std.specs.List.{AllZip}
use Rattle.std.proofs.lemmas.List.{length-append, get_or_default}
use Rattle.std.proofs.lemmas.List.Elements.{All-nil, All-cons, All-head, All-tail, All-append, All-map, All-weaker, All-contains}
use Rattle.su_base.proofs.Items.{Contains-head, Contains-later, All-members}
use Rattle.su_lex.specs.declared.meaning.Symbol.{Symbol}
use Rattle.su_lex.specs.Symbols.{IsSymbol}
use Rattle.su_lex.specs.Spelling.{spaced}
use Rattle.su_tableau.specs.declared.symbols.Sym.{Sym}
use Rattle.su_tableau.specs.declared.symbols.Sym.TheVariants.{Const, Var}
use Rattle.su_tableau.specs.Mapping.{images_of}
use Rattle.su_tableau.specs.Kinds.{Kinds}
use Rattle.su_map.specs.Lists.{row_numbers, numbers_of, row_of}
use Rattle.su_map.proofs.Members.{full_member}
use Rattle.su_map.proofs.Ranks.{rank_at, numbers_step}
use Rattle.su_map.proofs.RowLists.{in_rows, of_rows, row_by_row}
use Rattle.su_min.specs.Kept.{Minimised, all_rows}
use Rattle.su_min.proofs.Parts.{all_is}
use Rattle.su_check.specs.declared.nodes.Node.{Node}
use Rattle.su_check.specs.declared.certificates.RowTree.{RowTree}
use Rattle.su_check.specs.declared.certificates.StatedTerm.{StatedTerm}
use Rattle.su_check.specs.declared.certificates.Certificate.{Certificate}
use Rattle.su_check.specs.declared.sending.Sent.{Sent}
use Rattle.su_check.specs.SentRows.{Lines}
use Rattle.su_check.specs.Refutations.{refuting, Refutes}
use Rattle.su_check.specs.Certificate.{IsGoodForm, IsFoldInto, IsGood}
use Rattle.su_check.specs.Grammar.{line, row_line, tree_line, term_lines, certificate_lines, certificate_symbols, Reads}
use Rattle.su_check.specs.NodeSymbols.{number, sym_symbol}
use Rattle.su_lex.specs.Wordings.{kind_symbol}
use Rattle.su_check.specs.Ranges.{IsByte, IsByteNode, IsNamed, IsTermInRange}
use Rattle.su_check.specs.Verdict.{on_certificate}
use Rattle.su_refute.specs.Trees.{IsTree, IsTreeAt}
use Rattle.su_refute.specs.AllTrees.{IsSound, lines_of, AreTreesOf, AreTrees}
use Rattle.su_refute.specs.Written.{row_trees, term_of, terms_from, certificate_of, certificate_text, lines_text}
use Rattle.su_refute.specs.Laws.{IsSpelled, IsWritable, WrittenCertificatesAreGood}
use Rattle.su_refute.proofs.Needed.{ready_first}
use Rattle.su_refute.proofs.Nested.{nests_flat, not_deep}
use Rattle.su_refute.proofs.Lined.{lines_are_read}
use Rattle.su_refute.proofs.Validity.{all_flat, IsLine, numbers_line, head_line, kinds_line, row_is_line, tree_is_line, tree_bytes, certificate_word, kinds_word, term_word, head_word, rows_word, kept_word, fold_word}

-- ---- rows with their trees

row_trees_all : (P : RowTree → Type 0) (t : Lines) (rs : List ℕ) (ns : List Node) → AllZip (IsTree t) rs ns → ((r : ℕ) (n : Node) → Contains rs r → IsTree t r n → P (record { row = r; node = n })) → All P (row_trees rs ns)
row_trees_all P t [] ns h f = All-nil P
row_trees_all P t (r ∷ rs) [] h f = All-nil P
row_trees_all P t (r ∷ rs) (n ∷ ns) h f =
    All-cons P (record { row = r; node = n }) (row_trees rs ns) (f r n (Contains-head r rs) h.0) (row_trees_all P t rs ns h.1 (λ q m has. f q m (Contains-later r rs q has)))

-- any row may be named
weaker : (t : Lines) (r : ℕ) (n : Node) (p : List Sent) → IsTreeAt t r n p → Refutes t r n p
weaker t r n p (refuting _ _ open' fewest exact each) = refuting n p open' tt exact (λ b has. weaker t r _ _ (each b has))

record TreeThere (t : Lines) (rs : List ℕ) (ns : List Node) (k : ℕ) : Type 0 where
  tree : RowTree
  there : slice_get (row_trees rs ns) k ≡ Some tree
  row : tree.row ≡ get_or rs k 0
  refutes : Refutes t tree.row tree.node []

tree_at : (t : Lines) (rs : List ℕ) (ns : List Node) → AllZip (IsTree t) rs ns → (k : ℕ) → k < length rs → TreeThere t rs ns k
tree_at t [] ns h k low = absurd (omega arith)
tree_at t (r ∷ rs) [] h k low = absurd h
tree_at t (r ∷ rs) (n ∷ ns) h zero low = record { tree = record { row = r; node = n }; there = refl; row = refl; refutes = weaker t r n [] h.0 }
tree_at t (r ∷ rs) (n ∷ ns) h (suc k) low = let x = tree_at t rs ns h.1 k (omega arith) in record { tree = x.tree; there = x.there; row = x.row; refutes = x.refutes }

trees_few : (rs : List ℕ) (ns : List Node) → length (row_trees rs ns) ≤ length rs
trees_few [] ns = omega arith
trees_few (r ∷ rs) [] = omega arith
trees_few (r ∷ rs) (n ∷ ns) = let i = trees_few rs ns in omega arith

-- ---- the fold

full_length : (all n i : ℕ) → all + 1 ≡ 2 ^ n → i ≤ n → length (numbers_of all i) ≡ i
full_length all n zero e h = refl
full_length all n (suc i) e h =
    let r = full_length all n i e (omega arith) in
    let s = numbers_step all i in
    let one = (full_member all n i e).1 (omega arith) in
    omega arith

full_at : (all n i : ℕ) → all + 1 ≡ 2 ^ n → i < n → get_or (numbers_of all n) i 0 ≡ i
full_at all n i e h =
    ap (λ k. get_or (numbers_of all n) k 0) (sym (full_length all n i e (omega arith))) ∙ rank_at all n i h ((full_member all n i e).1 h)

fold_good : (m : Minimised) → IsSound m → IsFoldInto (lines_of m) m.fold
fold_good m s =
    let t = m.tableau in let n = length t.rows in let all = all_rows t in
    let maps = row_by_row t all t m.mask m.fold s.minimised.fold.maps in
    let len : length m.fold ≡ n = maps.one_each ∙ full_length all n n (all_is t) (omega arith) in
    record {
      symbols = maps.symbols;
      one_each = len;
      head = maps.head;
      rows = λ i h. subst (λ k. images_of maps.symbols (row_of t k) ≡ row_of t (get_or m.fold i 0)) (full_at all n i (all_is t) h) (maps.rows i (omega arith));
      into = λ k d h. let to = maps.targets k h in subst (Contains (row_numbers t m.mask)) (get_or_default m.fold k 0 d h) (in_rows t m.mask (get_or m.fold k 0) to.0 to.1);
    }

-- ---- one term

form_good : (kinds : Kinds) (j : ℕ) (m : Minimised) (trees : List Node) → IsWritable kinds m → IsGoodForm kinds j (term_of j m trees)
form_good kinds j m trees w =
    let s = w.sound in
    let ready = ready_first m.tableau m.mask s.valid in
    let width = w.typed.width in
    record {
      place = refl;
      few = s.small.rows;
      valid = record { widths = λ k d h. s.valid.widths k d h ∙ width; head_length = omega arith; head_occurs = s.valid.head_occurs };
      typed = record { width = refl; var_kind = w.typed.var_kind; fits = w.typed.fits };
      ascending = ready.ascending;
      within = ready.kept;
    }

term_good : (kinds : Kinds) (j : ℕ) (m : Minimised) (trees : List Node) → IsWritable kinds m → AreTreesOf m trees → IsGood kinds j (term_of j m trees)
term_good kinds j m trees w are = record {
  form = form_good kinds j m trees w;
  fold = fold_good m w.sound;
  trees = λ k h. let x = tree_at (lines_of m) (row_numbers m.tableau m.mask) trees are k h in record { tree = x.tree; there = x.there; row = x.row; refutes = x.refutes };
  no_surplus = trees_few (row_numbers m.tableau m.mask) trees;
}

small_kept : (m : Minimised) → IsSound m → (r : ℕ) → Contains (row_numbers m.tableau m.mask) r → r < 64
small_kept m s r has = let h = (of_rows m.tableau m.mask r has).0 in let l = s.small.rows in omega arith

-- numbers of rows
all_rows_small : (P : ℕ → Type 0) (m : Minimised) → IsSound m → ((r : ℕ) → r < 64 → P r) → All P (row_numbers m.tableau m.mask)
all_rows_small P m s f = All-members P (row_numbers m.tableau m.mask) (λ r has. f r (small_kept m s r has))

fold_small : (P : ℕ → Type 0) (m : Minimised) → IsSound m → ((r : ℕ) → r < 64 → P r) → All P m.fold
fold_small P m s f = All-members P m.fold (λ r has. f r (small_kept m s r (All-contains (Contains (row_numbers m.tableau m.mask)) m.fold r (fold_good m s).into has)))

named : (x : Sym) → IsSpelled x → IsNamed x
named (Var k) h = h
named (Const v) h = tt

term_in_range : (kinds : Kinds) (j : ℕ) (m : Minimised) (trees : List Node) → IsWritable kinds m → AreTreesOf m trees → j < 2 ^ 32 → IsTermInRange (length kinds) (term_of j m trees)
term_in_range kinds j m trees w are low =
    let s = w.sound in
    let ready = ready_first m.tableau m.mask s.valid in
    let width = w.typed.width in
    record {
      number = low;
      head = All-weaker IsSpelled IsNamed named m.tableau.head w.head;
      widths = λ k d h. s.valid.widths k d h ∙ width;
      rows = All-weaker (All IsSpelled) (All IsNamed) (λ row all. All-weaker IsSpelled IsNamed named row all) m.tableau.rows w.rows;
      kept = all_rows_small IsByte m s (λ r h. omega arith);
      fold = fold_small IsByte m s (λ r h. omega arith);
      tree_rows = row_trees_all (λ t. IsByte t.row) (lines_of m) (row_numbers m.tableau m.mask) trees are (λ r n has tree. let l = small_kept m s r has in omega arith);
      trees = row_trees_all (λ t. IsByteNode t.node) (lines_of m) (row_numbers m.tableau m.mask) trees are (λ r n has tree. tree_bytes (lines_of m) r n [] s.small.rows ready.kept tree);
    }

term_is_lines : (kinds : Kinds) (j : ℕ) (m : Minimised) (trees : List Node) → IsWritable kinds m → AreTreesOf m trees → j < 2 ^ 32 → All IsLine (term_lines (term_of j m trees))
term_is_lines kinds j m trees w are low =
    let s = w.sound in
    let ready = ready_first m.tableau m.mask s.valid in
    let x = term_of j m trees in
    let small : ℕ → Type 0 = λ n. n < 2 ^ 63 in
    let trees' = map tree_line x.trees in
    let fold' = line (codes "fold") (map number x.fold) in
    let kept' = line (codes "kept") (map number x.kept) in
    let rows' = map row_line x.rows in
    let last : All IsLine trees' = All-map IsLine tree_line x.trees (row_trees_all (λ t. IsLine (tree_line t)) (lines_of m) (row_numbers m.tableau m.mask) trees are (λ r n has tree. tree_is_line (lines_of m) r n s.small.rows (small_kept m s r has) ready tree)) in
    let sets : All IsLine (kept' ∷ fold' ∷ trees') = All-cons IsLine kept' (fold' ∷ trees') (numbers_line (codes "kept") x.kept kept_word (all_rows_small small m s (λ r h. omega arith))) (All-cons IsLine fold' trees' (numbers_line (codes "fold") x.fold fold_word (fold_small small m s (λ r h. omega arith))) last) in
    let body : All IsLine (rows' ++ kept' ∷ fold' ∷ trees') = All-append IsLine rows' (kept' ∷ fold' ∷ trees') (All-map IsLine row_line x.rows (λ k d h. row_is_line (get_or x.rows k d) (w.rows k d h))) sets in
    let headed : All IsLine (line (codes "head") (map sym_symbol x.head) ∷ line (codes "rows") [] ∷ (rows' ++ kept' ∷ fold' ∷ trees')) =
    All-cons IsLine (line (codes "head") (map sym_symbol x.head)) (line (codes "rows") [] ∷ (rows' ++ kept' ∷ fold' ∷ trees')) (head_line (codes "head") x.head head_word w.head)
    (All-cons IsLine (line (codes "rows") []) (rows' ++ kept' ∷ fold' ∷ trees') (numbers_line (codes "rows") [] rows_word (All-nil small)) body) in
    All-cons IsLine (line (codes "term") (number j ∷ [])) (line (codes "head") (map sym_symbol x.head) ∷ line (codes "rows") [] ∷ (rows' ++ kept' ∷ fold' ∷ trees'))
    (numbers_line (codes "term") (j ∷ []) term_word (All-cons small j [] (omega arith) (All-nil small))) headed

-- ---- all terms

all_terms : (P : StatedTerm → Type 0) (kinds : Kinds) (i : ℕ) (minimals : List Minimised) (lists : List (List Node)) → All (IsWritable kinds) minimals → AreTrees minimals lists
    → ((j : ℕ) (m : Minimised) (trees : List Node) → j < i + length minimals → IsWritable kinds m → AreTreesOf m trees → P (term_of j m trees)) → All P (terms_from i minimals lists)
all_terms P kinds i [] lists w h f = All-nil P
all_terms P kinds i (m ∷ ms) [] w h f = absurd h
all_terms P kinds i (m ∷ ms) (t ∷ lists) w h f =
    All-cons P (term_of i m t) (terms_from (suc i) ms lists) (f i m t (omega arith) (All-head (IsWritable kinds) m ms w) h.0)
    (all_terms P kinds (suc i) ms lists (All-tail (IsWritable kinds) m ms w) h.1 (λ j n trees l. f j n trees (omega arith)))

terms_length : (i : ℕ) (minimals : List Minimised) (lists : List (List Node)) → length (terms_from i minimals lists) ≡ length minimals
terms_length i [] lists = refl
terms_length i (m ∷ ms) [] = ap suc (terms_length (suc i) ms [])
terms_length i (m ∷ ms) (t ∷ lists) = ap suc (terms_length (suc i) ms lists)

terms_good : (kinds : Kinds) (i : ℕ) (minimals : List Minimised) (lists : List (List Node)) → All (IsWritable kinds) minimals → AreTrees minimals lists → (k : ℕ) (x : StatedTerm) → slice_get (terms_from i minimals lists) k ≡ Some x → IsGood kinds (i + k) x
terms_good kinds i [] lists w h zero x e = absurd cc
terms_good kinds i [] lists w h (suc k) x e = absurd cc
terms_good kinds i (m ∷ ms) [] w h k x e = absurd h
terms_good kinds i (m ∷ ms) (t ∷ lists) w h zero x e =
    let same : term_of i m t ≡ x = cc in
    let at : i ≡ i + 0 = omega arith in
    subst (λ j. IsGood kinds j x) at (subst (IsGood kinds i) same (term_good kinds i m t (All-head (IsWritable kinds) m ms w) h.0))
terms_good kinds i (m ∷ ms) (t ∷ lists) w h (suc k) x e =
    let at : suc i + k ≡ i + suc k = omega arith in
    subst (λ j. IsGood kinds j x) at (terms_good kinds (suc i) ms lists (All-tail (IsWritable kinds) m ms w) h.1 k x e)

-- ---- how long the text is

lines_long : (lines : List (List Symbol)) → length lines ≤ length (lines_text lines)
lines_long [] = omega arith
lines_long (l ∷ ls) =
    let i = lines_long ls in
    let a = length-append (spaced l ++ 10 ∷ []) (lines_text ls) in
    let b = length-append (spaced l) (10 ∷ []) in
    omega arith

terms_long : (terms : List StatedTerm) → length terms ≤ length (flat_map term_lines terms)
terms_long [] = omega arith
terms_long (x ∷ xs) = let i = terms_long xs in let a = length-append (term_lines x) (flat_map term_lines xs) in omega arith

text_long : (c : Certificate) → length c.terms ≤ length (certificate_text c)
text_long c = let a = terms_long c.terms in let b = lines_long (certificate_lines c) in omega arith

-- ---- the certificate

lines_good : (kinds : Kinds) (minimals : List Minimised) (lists : List (List Node)) → length kinds ≤ 128 → All (IsWritable kinds) minimals → AreTrees minimals lists → length minimals < 2 ^ 32 → All IsLine (certificate_lines (certificate_of kinds minimals lists))
lines_good kinds minimals lists most w are few =
    let c = certificate_of kinds minimals lists in
    let small : ℕ → Type 0 = λ n. n < 2 ^ 63 in
    let terms = all_terms (λ x. All IsLine (term_lines x)) kinds 0 minimals lists w are (λ j m trees low v a. term_is_lines kinds j m trees v a (omega arith)) in
    let rest = flat_map term_lines c.terms in
    All-cons IsLine (line (codes "certificate") (number (length kinds) ∷ [])) (line (codes "kinds") (map kind_symbol kinds) ∷ rest) (numbers_line (codes "certificate") (length kinds ∷ []) certificate_word (All-cons small (length kinds) [] (omega arith) (All-nil small)))
    (All-cons IsLine (line (codes "kinds") (map kind_symbol kinds)) rest (kinds_line (codes "kinds") kinds kinds_word)
    (all_flat IsLine term_lines c.terms (λ x has. All-contains (λ x. All IsLine (term_lines x)) c.terms x terms has)))

certificate_reads : (kinds : Kinds) (minimals : List Minimised) (lists : List (List Node)) → 1 ≤ length kinds → length kinds ≤ 128 → All (IsWritable kinds) minimals → AreTrees minimals lists → length minimals < 2 ^ 32 → Reads (certificate_text (certificate_of kinds minimals lists)) (certificate_of kinds minimals lists)
certificate_reads kinds minimals lists some most w are few =
    let c = certificate_of kinds minimals lists in
    let all = lines_good kinds minimals lists most w are few in
    record {
      symbols = certificate_symbols c;
      spelled = lines_are_read (certificate_lines c) (All-weaker IsLine (All IsSymbol) (λ l h. h.valid) (certificate_lines c) all);
      shallow = not_deep (certificate_symbols c) (nests_flat (λ l. l) 64 0 (certificate_lines c) (λ l has. (All-contains IsLine (certificate_lines c) l all has).nested));
      form = refl;
      in_range = record {
        some = some;
        most = most;
        terms = all_terms (IsTermInRange (length kinds)) kinds 0 minimals lists w are (λ j m trees low v a. term_in_range kinds j m trees v a (omega arith));
      };
    }

pub written_is_good : WrittenCertificatesAreGood
written_is_good kinds minimals lists some most w are short =
    let c = certificate_of kinds minimals lists in
    let len = terms_length 0 minimals lists in
    let long = text_long c in
    on_certificate c (certificate_reads kinds minimals lists some most w are (omega arith)) (sym len, λ i x h e. let at : 0 + i ≡ i = omega arith in subst (λ j. IsGood kinds j x) at (terms_good kinds 0 minimals lists w are i x e))
