-- The symbols of terms and of a certificate, before what follows them.
use Rattle.std.proofs.Common.{◌≡◌, ℕ, List, [], ◌∷◌, ◌++◌, map, flat_map, codes, length, get_or, All, refl, sym, ap, subst, ◌∙◌, append_assoc, append-nil, arith}
use Rattle.std.proofs.lemmas.Grind.{flat_map-append}
use Rattle.std.proofs.lemmas.List.{nil_from_length}
use Rattle.std.proofs.lemmas.List.Folds.{flat_map-map}
use Rattle.su_lex.specs.declared.meaning.Symbol.{Symbol}
use Rattle.su_lex.specs.declared.meaning.Symbol.TheVariants.{Word, Int, Text, Sign}
use Rattle.su_lex.specs.Names.{Begins}
use Rattle.su_base.specs.declared.values.Kind.{Kind}
use Rattle.su_base.specs.declared.values.Kind.TheVariants as kind
use Rattle.su_base.specs.declared.values.Value.TheVariants as value
use Rattle.su_tableau.specs.declared.symbols.Sym.{Sym}
use Rattle.su_tableau.specs.declared.symbols.Sym.TheVariants.{Const, Var}
use Rattle.su_check.specs.declared.certificates.Certificate.{Certificate}
use Rattle.su_check.specs.declared.certificates.StatedTerm.{StatedTerm}
use Rattle.su_check.specs.declared.certificates.RowTree.{RowTree}
use Rattle.su_check.specs.NodeSymbols.{number, sym_symbol}
use Rattle.su_lex.specs.Wordings.{kind_symbol}
use Rattle.su_check.specs.Grammar.{row_line, tree_line, term_lines, certificate_symbols}
use Rattle.su_check.specs.Ranges.{IsTermInRange, IsByte, IsNamed, IsByteNode}
use Rattle.su_check.specs.inside.LineReaders.{EndsTerm, IsRow, IsByteTree, Stops, term_before, term_symbols}
use Rattle.su_check.proofs.Runs.{Left}

abbrev id : List Symbol → List Symbol
id s = s

rows_at : (rows : List (List _)) (s : List (List Symbol)) → flat_map id (map row_line rows ++ s) ≡ flat_map row_line rows ++ flat_map id s
rows_at rows s = flat_map-append id (map row_line rows) s ∙ ap (λ f. f ++ flat_map id s) (flat_map-map id row_line rows)

-- the lines behind the rows
behind : StatedTerm → List (List Symbol)
behind x = (Word (codes "kept") ∷ map number x.kept) ∷ (Word (codes "fold") ∷ map number x.fold) ∷ map tree_line x.trees

behind_at : (x : StatedTerm) (t : List Symbol) → flat_map id (behind x) ++ t ≡ Word (codes "kept") ∷ (map number x.kept ++ Word (codes "fold") ∷ (map number x.fold ++ (flat_map tree_line x.trees ++ t)))
unfolding behind
behind_at x t = simp (flat_map-map, append_assoc)

pub term_at : (x : StatedTerm) (t : List Symbol) → term_symbols x ++ t ≡ Word (codes "term") ∷ term_before x t
unfolding behind
term_at x t =
    let e = rows_at x.rows (behind x) in
    let f = behind_at x t in
    ap (λ s. Word (codes "term") ∷ number x.number ∷ Word (codes "head") ∷ ((map sym_symbol x.head ++ Word (codes "rows") ∷ s) ++ t)) e
    ∙ ap (λ s. Word (codes "term") ∷ number x.number ∷ Word (codes "head") ∷ s)
    (append_assoc (map sym_symbol x.head) (Word (codes "rows") ∷ (flat_map row_line x.rows ++ flat_map id (behind x))) t
    ∙ ap (λ s. map sym_symbol x.head ++ Word (codes "rows") ∷ s) (append_assoc (flat_map row_line x.rows) (flat_map id (behind x)) t ∙ ap (λ s. flat_map row_line x.rows ++ s) f))

pub ends_term : (width : ℕ) (all done : List StatedTerm) (s : List Symbol) → Left term_symbols (IsTermInRange width) all done s [] → EndsTerm s
ends_term width all done s left = subst EndsTerm (sym left.rest_is) (go left.more)
  where
    go : (xs : List StatedTerm) → EndsTerm (flat_map term_symbols xs ++ [])
    go [] first begins = absurd (cc begins.1)
    go (x ∷ xs) first begins =
        let e : first ∷ begins.0 ≡ Word (codes "term") ∷ term_before x (flat_map term_symbols xs ++ []) = sym begins.1 ∙ append_assoc (term_symbols x) (flat_map term_symbols xs) [] ∙ term_at x (flat_map term_symbols xs ++ []) in
        cc

pub certificate_at : (c : Certificate) → certificate_symbols c ≡ Word (codes "certificate") ∷ number (length c.kinds) ∷ Word (codes "kinds") ∷ (map kind_symbol c.kinds ++ (flat_map term_symbols c.terms ++ []))
certificate_at c = ap (λ s. Word (codes "certificate") ∷ number (length c.kinds) ∷ Word (codes "kinds") ∷ (map kind_symbol c.kinds ++ s)) (go c.terms ∙ sym (append-nil (flat_map term_symbols c.terms)))
  where
    go : (xs : List StatedTerm) → flat_map id (flat_map term_lines xs) ≡ flat_map term_symbols xs
    go [] = refl
    go (x ∷ xs) = flat_map-append id (term_lines x) (flat_map term_lines xs) ∙ ap (λ s. term_symbols x ++ s) (go xs)

-- ---- where lists end

byte_at : ℕ → Symbol → ℕ
byte_at i (Word w) = get_or w i 0
byte_at i (Int n) = 0
byte_at i (Text t) = 0
byte_at i (Sign g) = 0

pub stops_rows : (r : List Symbol) → Stops sym_symbol IsNamed (Word (codes "rows") ∷ r)
unfolding byte_at
stops_rows r (Var k) h begins = let e : Word (codes "rows") ≡ sym_symbol (Var k) = cc begins.1 in absurd (let n = ap (byte_at 0) e in omega (arith, n))
stops_rows r (Const (value.Int n)) h begins = absurd (cc begins.1)
stops_rows r (Const (value.Text t)) h begins = absurd (cc begins.1)

pub stops_word : (w : List ℕ) (r : List Symbol) → Stops number IsByte (Word w ∷ r)
stops_word w r n h begins = absurd (cc begins.1)

pub stops_trees : (ts : List RowTree) (r : List Symbol) → EndsTerm r → Stops number IsByte (flat_map tree_line ts ++ r)
stops_trees [] r ends n h begins = let e = ends (number n) begins in absurd (cc)
stops_trees (t ∷ ts) r ends n h begins = absurd (cc begins.1)

pub no_tree : (r : List Symbol) → EndsTerm r → ¬ (Begins (Word (codes "tree")) r)
unfolding byte_at
no_tree r ends begins = let n = ap (byte_at 1) (ends (Word (codes "tree")) begins) in omega (arith, n)

pub behind_word : (w : List ℕ) (s t r : List Symbol) → s ≡ Word w ∷ t → s ≡ Word w ∷ r → t ≡ r
behind_word w s t r here is = cc

pub both_trees : (ts : List RowTree) → All (λ t. IsByte t.row) ts → All (λ t. IsByteNode t.node) ts → All IsByteTree ts
both_trees ts rows nodes k d h = (rows k d h, nodes k d h)

pub both_rows : (width : ℕ) (rows : List (List Sym)) → All (λ row. length row ≡ width) rows → All (All IsNamed) rows → All (IsRow width) rows
both_rows width rows widths named k d h = (widths k d h, named k d h)

pub same_term : (x : StatedTerm) (number : ℕ) (head : List Sym) (rows : List (List Sym)) (kept fold : List ℕ) (trees : List RowTree)
    → number ≡ x.number → head ≡ x.head → rows ≡ x.rows → kept ≡ x.kept → fold ≡ x.fold → trees ≡ x.trees
    → record { number = number; head = head; rows = rows; kept = kept; fold = fold; trees = trees } ≡ x
same_term x number head rows kept fold trees a b d f g h = rw (a, b, d, f, g, h) refl

-- ---- a certificate

pub stops_terms : (xs : List StatedTerm) → Stops kind_symbol (λ (k : Kind). Unit {0}) (flat_map term_symbols xs ++ [])
unfolding byte_at
stops_terms [] k h begins = absurd (cc begins.1)
stops_terms (x ∷ xs) k h begins =
    let e : kind_symbol k ∷ begins.0 ≡ Word (codes "term") ∷ term_before x (flat_map term_symbols xs ++ []) = sym begins.1 ∙ append_assoc (term_symbols x) (flat_map term_symbols xs) [] ∙ term_at x (flat_map term_symbols xs ++ []) in
    let w : kind_symbol k ≡ Word (codes "term") = cc in
    go k w
  where
    go : (k : Kind) → kind_symbol k ≡ Word (codes "term") → ⊥
    go kind.Int w = let n = ap (byte_at 0) w in omega (arith, n)
    go kind.Text w = let n = ap (byte_at 2) w in omega (arith, n)

pub certificate_found : (c : Certificate) (width : ℕ) (e r s t u v : List Symbol) → e ≡ Word (codes "certificate") ∷ r → r ≡ number width ∷ s → s ≡ Word (codes "kinds") ∷ t → t ≡ map kind_symbol c.kinds ++ u → u ≡ flat_map term_symbols c.terms ++ v → length v ≡ 0
    → length c.kinds ≡ width → e ≡ certificate_symbols c
certificate_found c width e r s t u v a b d f g h w =
    let end : v ≡ [] = nil_from_length v h in
    let all : e ≡ Word (codes "certificate") ∷ number (length c.kinds) ∷ Word (codes "kinds") ∷ (map kind_symbol c.kinds ++ (flat_map term_symbols c.terms ++ [])) = rw (a, b, d, f, g, end, w) refl in
    all ∙ sym (certificate_at c)

pub same_certificate : (c : Certificate) (kinds : List Kind) (terms : List StatedTerm) → kinds ≡ c.kinds → terms ≡ c.terms → record { kinds = kinds; terms = terms } ≡ c
same_certificate c kinds terms e f = rw (e, f) refl
