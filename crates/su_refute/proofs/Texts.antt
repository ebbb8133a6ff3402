-- Lines of certificates, one after another.
use Rattle.std.proofs.Common.{◌≡◌, ℕ, zero, suc, ◌+◌, ◌<◌, ◌≤◌, ◌⊎◌, List, [], ◌∷◌, ◌++◌, map, flat_map, take, length, get_or, inl, inr, refl, sym, ap, ◌∙◌, append_assoc, arith}
use Rattle.std.proofs.lemmas.List.{append-nil, length-take-le, take_more, map-append}
use Rattle.su_base.proofs.Items.{flat_map-push}
use Rattle.su_lex.specs.declared.meaning.Symbol.{Symbol}
use Rattle.su_lex.specs.declared.meaning.Symbol.TheVariants.{Sign}
use Rattle.su_lex.specs.declared.signs.Sign.TheVariants as sign
use Rattle.su_min.specs.Kept.{Minimised}
use Rattle.su_check.specs.declared.nodes.Node.{Node}
use Rattle.su_check.specs.declared.nodes.Branch.{Branch}
use Rattle.su_check.specs.declared.certificates.RowTree.{RowTree}
use Rattle.su_check.specs.Refutations.{row_named, branches_of}
use Rattle.su_check.specs.NodeSymbols.{number, node_symbols}
use Rattle.su_check.specs.Grammar.{tree_line, term_lines}
use Rattle.su_check.proofs.NodeSymbols.{branch_symbols, node_at}
use Rattle.su_refute.specs.Written.{row_trees, term_of, terms_from, line_text, lines_text}

pub node_pushed : (n : Node) (old a b c d : List Symbol) (bs : List Branch) → a ≡ old ++ Sign sign.Open ∷ [] → b ≡ a ++ number (row_named n) ∷ [] → bs ≡ branches_of n → c ≡ b ++ flat_map branch_symbols bs → d ≡ c ++ Sign sign.Close ∷ [] → d ≡ old ++ node_symbols n
node_pushed n old a b c d bs ea eb es ec ed =
    let O = Sign sign.Open in let C = Sign sign.Close in let k = number (row_named n) in let f = flat_map branch_symbols (branches_of n) in
    let whole : node_symbols n ≡ O ∷ k ∷ (f ++ C ∷ []) = sym (append-nil (node_symbols n)) ∙ node_at n [] in
    let ec' : c ≡ b ++ f = ec ∙ ap (λ xs. b ++ flat_map branch_symbols xs) es in
    ed ∙ ap (λ xs. xs ++ C ∷ []) (ec' ∙ ap (λ xs. xs ++ f) (eb ∙ ap (λ xs. xs ++ k ∷ []) ea))
    ∙ append_assoc ((old ++ O ∷ []) ++ k ∷ []) f (C ∷ [])
    ∙ append_assoc (old ++ O ∷ []) (k ∷ []) (f ++ C ∷ [])
    ∙ append_assoc old (O ∷ []) (k ∷ (f ++ C ∷ []))
    ∙ ap (λ xs. old ++ xs) (sym whole)

pub lines_append : (xs ys : List (List Symbol)) → lines_text (xs ++ ys) ≡ lines_text xs ++ lines_text ys
lines_append [] ys = refl
lines_append (x ∷ xs) ys = ap (λ zs. line_text x ++ zs) (lines_append xs ys) ∙ sym (append_assoc (line_text x) (lines_text xs) (lines_text ys))

lines_push : (xs : List (List Symbol)) (x : List Symbol) → lines_text (xs ++ x ∷ []) ≡ lines_text xs ++ line_text x
lines_push xs x = lines_append xs (x ∷ []) ∙ ap (λ zs. lines_text xs ++ zs) (append-nil (line_text x))

-- ---- rows with their trees

row_trees_push : (ks : List ℕ) (ts : List Node) (k : ℕ) (t : Node) → length ks ≡ length ts → row_trees (ks ++ k ∷ []) (ts ++ t ∷ []) ≡ row_trees ks ts ++ record { row = k; node = t } ∷ []
row_trees_push [] [] k t e = refl
row_trees_push [] (u ∷ ts) k t e = absurd (omega arith)
row_trees_push (j ∷ ks) [] k t e = absurd (omega arith)
row_trees_push (j ∷ ks) (u ∷ ts) k t e = ap (λ xs. record { row = j; node = u } ∷ xs) (row_trees_push ks ts k t (omega arith))

row_trees_take : (n : ℕ) (ks : List ℕ) (ts : List Node) → (length ks ≤ n) ⊎ (length ts ≤ n) → row_trees (take n ks) (take n ts) ≡ row_trees ks ts
row_trees_take zero [] ts h = refl
row_trees_take zero (k ∷ ks) [] h = refl
row_trees_take zero (k ∷ ks) (t ∷ ts) (inl l) = absurd (omega arith)
row_trees_take zero (k ∷ ks) (t ∷ ts) (inr l) = absurd (omega arith)
row_trees_take (suc n) [] ts h = refl
row_trees_take (suc n) (k ∷ ks) [] h = refl
row_trees_take (suc n) (k ∷ ks) (t ∷ ts) (inl l) = ap (λ xs. record { row = k; node = t } ∷ xs) (row_trees_take n ks ts (inl (omega arith)))
row_trees_take (suc n) (k ∷ ks) (t ∷ ts) (inr l) = ap (λ xs. record { row = k; node = t } ∷ xs) (row_trees_take n ks ts (inr (omega arith)))

pub trees_next : (old out new : List ℕ) (ks : List ℕ) (ts : List Node) (i : ℕ) (t : Node) → i < length ks → i < length ts → t ≡ get_or ts i t
    → out ≡ old ++ lines_text (map tree_line (row_trees (take i ks) (take i ts))) → new ≡ out ++ line_text (tree_line (record { row = get_or ks i 0; node = t }))
    → new ≡ old ++ lines_text (map tree_line (row_trees (take (i + 1) ks) (take (i + 1) ts)))
trees_next old out new ks ts i t hk ht et before is =
    let k = get_or ks i 0 in
    let x : RowTree = record { row = k; node = t } in
    let ka : take (i + 1) ks ≡ take i ks ++ k ∷ [] = take_more ks i 0 hk in
    let ta : take (i + 1) ts ≡ take i ts ++ t ∷ [] = take_more ts i t ht ∙ ap (λ y. take i ts ++ y ∷ []) (sym et) in
    let len = length-take-le i ks (omega arith) ∙ sym (length-take-le i ts (omega arith)) in
    let all : row_trees (take (i + 1) ks) (take (i + 1) ts) ≡ row_trees (take i ks) (take i ts) ++ x ∷ [] = ap (λ a. row_trees a (take (i + 1) ts)) ka ∙ ap (row_trees (take i ks ++ k ∷ [])) ta ∙ row_trees_push (take i ks) (take i ts) k t len in
    let front = map tree_line (row_trees (take i ks) (take i ts)) in
    is ∙ ap (λ o. o ++ line_text (tree_line x)) before ∙ append_assoc old (lines_text front) (line_text (tree_line x))
    ∙ ap (λ o. old ++ o) (sym (ap (λ xs. lines_text (map tree_line xs)) all ∙ ap lines_text (map-append tree_line (row_trees (take i ks) (take i ts)) (x ∷ [])) ∙ lines_push front (tree_line x)))

pub trees_done : (old out : List ℕ) (ks : List ℕ) (ts : List Node) (i : ℕ) → (length ks ≤ i) ⊎ (length ts ≤ i) → out ≡ old ++ lines_text (map tree_line (row_trees (take i ks) (take i ts))) → out ≡ old ++ lines_text (map tree_line (row_trees ks ts))
trees_done old out ks ts i h is = is ∙ ap (λ xs. old ++ lines_text (map tree_line xs)) (row_trees_take i ks ts h)

-- ---- terms

terms_push : (j : ℕ) (ms : List Minimised) (m : Minimised) (lists : List (List Node)) → terms_from j (ms ++ m ∷ []) lists ≡ terms_from j ms lists ++ term_of (j + length ms) m (get_or lists (length ms) []) ∷ []
terms_push j [] m [] = let e : j ≡ j + 0 = omega arith in ap (λ k. term_of k m [] ∷ []) e
terms_push j [] m (t ∷ lists) = let e : j ≡ j + 0 = omega arith in ap (λ k. term_of k m t ∷ []) e
terms_push j (x ∷ ms) m [] =
    let e : suc j + length ms ≡ j + suc (length ms) = omega arith in
    ap (λ xs. term_of j x [] ∷ xs) (terms_push (suc j) ms m [] ∙ ap (λ k. terms_from (suc j) ms [] ++ term_of k m [] ∷ []) e)
terms_push j (x ∷ ms) m (t ∷ lists) =
    let e : suc j + length ms ≡ j + suc (length ms) = omega arith in
    ap (λ xs. term_of j x t ∷ xs) (terms_push (suc j) ms m lists ∙ ap (λ k. terms_from (suc j) ms lists ++ term_of k m (get_or lists (length ms) []) ∷ []) e)

pub terms_next : (front out new : List ℕ) (ms : List Minimised) (lists : List (List Node)) (i : ℕ) (m : Minimised) (trees : List Node) → i < length ms → m ≡ get_or ms i m → trees ≡ get_or lists i []
    → out ≡ front ++ lines_text (flat_map term_lines (terms_from 0 (take i ms) lists)) → new ≡ out ++ lines_text (term_lines (term_of i m trees)) → new ≡ front ++ lines_text (flat_map term_lines (terms_from 0 (take (i + 1) ms) lists))
terms_next front out new ms lists i m trees h em et before is =
    let more : take (i + 1) ms ≡ take i ms ++ m ∷ [] = take_more ms i m h ∙ ap (λ x. take i ms ++ x ∷ []) (sym em) in
    let len : length (take i ms) ≡ i = length-take-le i ms (omega arith) in
    let len0 : 0 + length (take i ms) ≡ i = omega arith in
    let last : term_of (0 + length (take i ms)) m (get_or lists (length (take i ms)) []) ≡ term_of i m trees = ap (λ k. term_of k m (get_or lists (length (take i ms)) [])) len0 ∙ ap (λ k. term_of i m (get_or lists k [])) len ∙ ap (term_of i m) (sym et) in
    let terms : terms_from 0 (take (i + 1) ms) lists ≡ terms_from 0 (take i ms) lists ++ term_of i m trees ∷ [] = ap (λ xs. terms_from 0 xs lists) more ∙ terms_push 0 (take i ms) m lists ∙ ap (λ x. terms_from 0 (take i ms) lists ++ x ∷ []) last in
    let old = flat_map term_lines (terms_from 0 (take i ms) lists) in
    is ∙ ap (λ o. o ++ lines_text (term_lines (term_of i m trees))) before ∙ append_assoc front (lines_text old) (lines_text (term_lines (term_of i m trees)))
    ∙ ap (λ o. front ++ o) (sym (ap (λ xs. lines_text (flat_map term_lines xs)) terms ∙ ap lines_text (flat_map-push term_lines (terms_from 0 (take i ms) lists) (term_of i m trees)) ∙ lines_append old (term_lines (term_of i m trees))))
