-- The lines of a certificate are made of symbols, and nest no deeper than there are rows.
use Rattle.std.proofs.Common.{◌≡◌, ℕ, ◌+◌, ◌%◌, ◌<◌, ◌≤◌, ◌^◌, true, List, [], ◌∷◌, ◌++◌, map, flat_map, length, get_or, codes, All, Contains, IsTrue, refl, sym, subst, ◌∙◌, arith}
use Rattle.std.specs.Fmt.{decimal}
use Rattle.std.specs.List.{list_all}
use Rattle.std.proofs.lemmas.Bool.Decides.{nat_tests}
use Rattle.std.proofs.lemmas.Fmt.{decimal_by_steps, length-decimal-le}
use Rattle.std.proofs.lemmas.List.{append-nil, length-append}
use Rattle.std.proofs.lemmas.List.Elements.{All-nil, All-cons, All-push, All-append, All-map, All-contains}
use Rattle.std.proofs.lemmas.List.Sums.{AllPass-from_list_all}
use Rattle.su_base.specs.Name.{is_letter, is_letter_or_digit, IsWord}
use Rattle.su_base.specs.declared.values.Kind.{Kind}
use Rattle.su_base.specs.declared.values.Kind.TheVariants as kind
use Rattle.su_base.specs.declared.values.Value.TheVariants as value
use Rattle.su_base.proofs.Items.{Contains-head, Contains-later, Contains-map}
use Rattle.su_lex.specs.declared.meaning.Symbol.{Symbol}
use Rattle.su_lex.specs.declared.meaning.Symbol.TheVariants.{Word, Sign}
use Rattle.su_lex.specs.declared.signs.Sign.TheVariants as sign
use Rattle.su_lex.specs.Symbols.{IsSymbol}
use Rattle.su_tableau.specs.declared.symbols.Sym.{Sym}
use Rattle.su_tableau.specs.declared.symbols.Sym.TheVariants.{Const, Var}
use Rattle.su_check.specs.declared.nodes.Node.{Node}
use Rattle.su_check.specs.declared.sending.Sent.{Sent}
use Rattle.su_check.specs.SentRows.{Lines, sent_too}
use Rattle.su_check.specs.inside.Widths.{IsWithin}
use Rattle.su_check.specs.Refutations.{refuting, row_named, branches_of, target_of, node_of}
use Rattle.su_refute.specs.inside.Positions.{IsReady}
use Rattle.su_check.specs.NodeSymbols.{number, sym_symbol, node_symbols}
use Rattle.su_lex.specs.Wordings.{kind_symbol, in_parens}
use Rattle.su_check.specs.Grammar.{line, row_line, tree_line}
use Rattle.su_check.specs.Ranges.{IsByteNode, of_bytes}
use Rattle.su_check.proofs.NodeSymbols.{branch_symbols, node_at}
use Rattle.su_refute.proofs.Ready.{ready_more}
use Rattle.su_refute.specs.Trees.{IsTreeAt}
use Rattle.su_refute.specs.Laws.{IsSpelled}
use Rattle.su_refute.proofs.SomeTree.{AreApart, apart_more, few_sent}
use Rattle.su_refute.proofs.Nested.{Nests, IsStep, IsPlain, nests_plain, nests_parens, nests_flat}

-- ---- symbols

digit_passes : (n : ℕ) → n < 10 → IsTrue (is_letter_or_digit (48 + n))
digit_passes n h = grind (arith, nat_tests, h)

digits_pass : (n : ℕ) → n < 2 ^ 64 → All (λ c. IsTrue (is_letter_or_digit c)) (decimal n)
digits_pass n h =
    decimal_by_steps (λ n ds. All (λ c. IsTrue (is_letter_or_digit c)) ds)
    (λ n low. All-cons (λ c. IsTrue (is_letter_or_digit c)) (48 + n) [] (digit_passes n low) (All-nil (λ c. IsTrue (is_letter_or_digit c))))
    (λ n ds low before. All-push (λ c. IsTrue (is_letter_or_digit c)) ds (48 + n % 10) before (digit_passes (n % 10) (omega arith)))
    n h

word_valid : (x : ℕ) (bs : List ℕ) → is_letter x ≡ true → list_all is_letter_or_digit bs ≡ true → length bs < 64 → IsWord (x ∷ bs)
word_valid x bs first rest short = (first, AllPass-from_list_all is_letter_or_digit bs rest, short)

number_valid : (n : ℕ) → n < 2 ^ 63 → IsSymbol (number n)
number_valid n h = omega (arith, h)

sym_valid : (x : Sym) → IsSpelled x → IsSymbol (sym_symbol x)
sym_valid (Var k) h =
    let wide : k < 2 ^ 64 = omega arith in
    let l = length-decimal-le 10 k (omega arith) (omega arith) wide in
    (refl, digits_pass k wide, omega arith)
sym_valid (Const (value.Int n)) h = h
sym_valid (Const (value.Text t)) h = h

sym_plain : (x : Sym) → IsPlain (sym_symbol x)
sym_plain (Var k) = record { no_open = refl; no_close = refl }
sym_plain (Const (value.Int n)) = record { no_open = refl; no_close = refl }
sym_plain (Const (value.Text t)) = record { no_open = refl; no_close = refl }

-- ---- lines

-- it is made of symbols, and its parentheses are in pairs
pub record IsLine (l : List Symbol) : Type 0 where
  pub valid : All IsSymbol l
  pub nested : Nests 64 0 l 0

plain_line : (l : List Symbol) → All IsSymbol l → All IsPlain l → IsLine l
plain_line l valid plain = record { valid = valid; nested = nests_plain 64 0 l (omega arith) plain }

word_plain : (w : List ℕ) → IsPlain (Word w)
word_plain w = record { no_open = refl; no_close = refl }

number_plain : (n : ℕ) → IsPlain (number n)
number_plain n = record { no_open = refl; no_close = refl }

pub numbers_line : (w : List ℕ) (ns : List ℕ) → IsWord w → All (λ n. n < 2 ^ 63) ns → IsLine (line w (map number ns))
numbers_line w ns word small =
    plain_line (line w (map number ns)) (All-cons IsSymbol (Word w) (map number ns) word (All-map IsSymbol number ns (λ k d h. number_valid (get_or ns k d) (small k d h))))
    (All-cons IsPlain (Word w) (map number ns) (word_plain w) (All-map IsPlain number ns (λ k d h. number_plain (get_or ns k d))))

pub head_line : (w : List ℕ) (xs : List Sym) → IsWord w → All IsSpelled xs → IsLine (line w (map sym_symbol xs))
head_line w xs word spelled =
    plain_line (line w (map sym_symbol xs)) (All-cons IsSymbol (Word w) (map sym_symbol xs) word (All-map IsSymbol sym_symbol xs (λ k d h. sym_valid (get_or xs k d) (spelled k d h))))
    (All-cons IsPlain (Word w) (map sym_symbol xs) (word_plain w) (All-map IsPlain sym_symbol xs (λ k d h. sym_plain (get_or xs k d))))

kind_valid : (k : Kind) → IsSymbol (kind_symbol k)
kind_valid kind.Int = word_valid 105 (110 ∷ 116 ∷ []) refl refl (omega arith)
kind_valid kind.Text = word_valid 116 (101 ∷ 120 ∷ 116 ∷ []) refl refl (omega arith)

kind_plain : (k : Kind) → IsPlain (kind_symbol k)
kind_plain kind.Int = record { no_open = refl; no_close = refl }
kind_plain kind.Text = record { no_open = refl; no_close = refl }

pub kinds_line : (w : List ℕ) (ks : List Kind) → IsWord w → IsLine (line w (map kind_symbol ks))
kinds_line w ks word =
    plain_line (line w (map kind_symbol ks)) (All-cons IsSymbol (Word w) (map kind_symbol ks) word (All-map IsSymbol kind_symbol ks (λ k d h. kind_valid (get_or ks k d))))
    (All-cons IsPlain (Word w) (map kind_symbol ks) (word_plain w) (All-map IsPlain kind_symbol ks (λ k d h. kind_plain (get_or ks k d))))

parens_valid : (xs : List Symbol) → All IsSymbol xs → All IsSymbol (in_parens xs)
parens_valid xs all = All-cons IsSymbol (Sign sign.Open) (xs ++ Sign sign.Close ∷ []) tt (All-push IsSymbol xs (Sign sign.Close) all tt)

pub row_is_line : (xs : List Sym) → All IsSpelled xs → IsLine (row_line xs)
row_is_line xs spelled = record {
  valid = parens_valid (map sym_symbol xs) (All-map IsSymbol sym_symbol xs (λ k d h. sym_valid (get_or xs k d) (spelled k d h)));
  nested = nests_parens 64 0 (map sym_symbol xs) (omega arith) (nests_plain 64 (0 + 1) (map sym_symbol xs) (omega arith) (All-map IsPlain sym_symbol xs (λ k d h. sym_plain (get_or xs k d))));
}

pub certificate_word : IsWord (codes "certificate")
certificate_word = word_valid 99 (codes "ertificate") refl refl (omega arith)

pub kinds_word : IsWord (codes "kinds")
kinds_word = word_valid 107 (codes "inds") refl refl (omega arith)

pub term_word : IsWord (codes "term")
term_word = word_valid 116 (codes "erm") refl refl (omega arith)

pub head_word : IsWord (codes "head")
head_word = word_valid 104 (codes "ead") refl refl (omega arith)

pub rows_word : IsWord (codes "rows")
rows_word = word_valid 114 (codes "ows") refl refl (omega arith)

pub kept_word : IsWord (codes "kept")
kept_word = word_valid 107 (codes "ept") refl refl (omega arith)

pub fold_word : IsWord (codes "fold")
fold_word = word_valid 102 (codes "old") refl refl (omega arith)

tree_word : IsWord (codes "tree")
tree_word = word_valid 116 (codes "ree") refl refl (omega arith)

-- ---- trees

pub all_flat : {X Y : Type 0} (P : Y → Type 0) (f : X → List Y) (xs : List X) → ((x : X) → Contains xs x → All P (f x)) → All P (flat_map f xs)
all_flat P f [] h = All-nil P
all_flat P f (x ∷ xs) h = All-append P (f x) (flat_map f xs) (h x (Contains-head x xs)) (all_flat P f xs (λ y has. h y (Contains-later x xs y has)))

node_whole : (n : Node) → node_symbols n ≡ in_parens (number (row_named n) ∷ flat_map branch_symbols (branches_of n))
node_whole n = sym (append-nil (node_symbols n)) ∙ node_at n []

node_valid : (n : Node) → IsByteNode n → All IsSymbol (node_symbols n)
node_valid n (of_bytes _ row targets nodes) =
    subst (All IsSymbol) (sym (node_whole n)) (parens_valid (number (row_named n) ∷ flat_map branch_symbols (branches_of n))
    (All-cons IsSymbol (number (row_named n)) (flat_map branch_symbols (branches_of n)) (number_valid (row_named n) (omega arith))
    (all_flat IsSymbol branch_symbols (branches_of n) (λ b has. All-cons IsSymbol (number (target_of b)) (node_symbols (node_of b)) (number_valid (target_of b) (let t = targets b has in omega arith)) (node_valid (node_of b) (nodes b has))))))

plain_step : (d i : ℕ) (x : Symbol) → i ≤ d → IsPlain x → IsStep d x i i
plain_step d i x h p = record { within = h; level = rw (p.no_open, p.no_close) refl }

pub tree_bytes : (t : Lines) (r : ℕ) (n : Node) (p : List Sent) → length t.rows ≤ 64 → All (λ k. k < length t.rows) t.kept → IsTreeAt t r n p → IsByteNode n
tree_bytes t r n p small kept (refuting _ _ open' fewest exact each) =
    of_bytes n (let l = All-contains (λ k. k < length t.rows) t.kept (row_named n) kept open'.member in omega arith)
    (λ b has. let fit = (exact.members (target_of b)).0 (Contains-map target_of (branches_of n) b has) in let l = All-contains (λ k. k < length t.rows) t.kept (target_of b) kept fit.member in omega arith)
    (λ b has. tree_bytes t r (node_of b) (sent_too p (row_named n) (target_of b)) small kept (each b has))

pub tree_nests : (t : Lines) (r : ℕ) (n : Node) (p : List Sent) (d i : ℕ) → IsReady t p → AreApart p → i + length t.rows ≤ d + length p → IsTreeAt t r n p → Nests d i (node_symbols n) i
tree_nests t r n p d i ready apart room (refuting _ _ open' fewest exact each) =
    let s = row_named n in
    let hs = All-contains (λ k. k < length t.rows) t.kept s ready.kept open'.member in
    let here : Sent = record { row = s; target = s } in
    let few = few_sent t (p ++ here ∷ []) here (All-push (IsWithin t) p here ready.within (record { row = hs; target = hs })) (apart_more p here apart open'.free) in
    let len = length-append p (here ∷ []) in
    let deep : i + 1 ≤ d = omega arith in
    subst (λ xs. Nests d i xs i) (sym (node_whole n)) (nests_parens d i (number s ∷ flat_map branch_symbols (branches_of n)) deep (
      i + 1,
      plain_step d (i + 1) (number s) deep (number_plain s),
      nests_flat branch_symbols d (i + 1) (branches_of n) (λ b has.
          let new : Sent = record { row = s; target = target_of b } in
          let fit = (exact.members (target_of b)).0 (Contains-map target_of (branches_of n) b has) in
          let more = length-append p (new ∷ []) in
          (i + 1, plain_step d (i + 1) (number (target_of b)) deep (number_plain (target_of b)), tree_nests t r (node_of b) (sent_too p s (target_of b)) d (i + 1) (ready_more t r p s (target_of b) ready open'.member fit) (apart_more p new apart open'.free) (omega arith) (each b has))),
    ))

pub tree_is_line : (t : Lines) (r : ℕ) (n : Node) → length t.rows ≤ 64 → r < 64 → IsReady t [] → IsTreeAt t r n [] → IsLine (tree_line (record { row = r; node = n }))
tree_is_line t r n small hr ready tree = record {
  valid = All-cons IsSymbol (Word (codes "tree")) (number r ∷ node_symbols n) tree_word (All-cons IsSymbol (number r) (node_symbols n) (number_valid r (omega arith)) (node_valid n (tree_bytes t r n [] small ready.kept tree)));
  nested =
      (0, plain_step 64 0 (Word (codes "tree")) (omega arith) (word_plain (codes "tree")), (0, plain_step 64 0 (number r) (omega arith) (number_plain r), tree_nests t r n [] 64 0 ready (λ a b d lt h. absurd (omega arith)) (omega arith) tree));
}
