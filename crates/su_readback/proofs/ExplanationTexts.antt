-- Each line of an explanation is made of its words.
use Rattle.std.proofs.Common.{◌≡◌, ℕ, ◌+◌, ◌*◌, false, List, [], ◌∷◌, ◌++◌, map, flat_map, length, take, refl, sym, ap, ◌∙◌, append_assoc, append-nil}
use Rattle.std.specs.Prelude.{codes, decimal}
use Rattle.std.specs.Ordering.{nat_cmp}
use Rattle.std.specs.FinSet.{FinSet}
use Rattle.su_map.specs.Lists.{row_numbers, row_of}
use Rattle.su_min.specs.declared.reduced.Cover.{Cover}
use Rattle.su_min.specs.declared.reduced.Reduced.{Reduced}
use Rattle.su_min.specs.Kept.{Minimised}
use Rattle.su_query.specs.declared.resolving.Resolved.{Resolved}
use Rattle.su_query.specs.declared.statements.Query.{Query}
use Rattle.su_query.specs.Shown.{query_text}
use Rattle.su_schema.specs.SchemaValue.{SchemaValue}
use Rattle.su_schema.specs.Entries.{object_names}
use Rattle.su_ddl.specs.ShownDefinitions.{name_at, names_in}
use Rattle.su_steps.specs.declared.results.Origin.{Origin}
use Rattle.su_steps.specs.declared.results.Term.{Term}
use Rattle.su_tableau.specs.Tableaux.{Tab}
use Rattle.su_show.specs.Explanations.{query_line, variables_line, last_line}
use Rattle.su_show.specs.MinimalLines.{kept_line, fold_line, sources_line, cover_line}
use Rattle.su_show.specs.QueryCauses.{variable_text}
use Rattle.su_show.specs.RowLines.{attributes_shown, row_line}
use Rattle.su_show.specs.Symbols.{variable_at, symbol_text, symbol_at}
use Rattle.su_show.specs.TableauLines.{operator_at, term_line, head_line, compare_line}
use Rattle.su_explained.specs.Pieces.{line_text}
use Rattle.su_readback.specs.Explanations.{words_in, query_shown, variables_shown, term_shown, cell_shown, row_shown, head_shown, compare_shown, cover_shown, count_shown}
use Rattle.su_readback.proofs.SchemaTexts.{blanks}
use Rattle.su_readback.proofs.Spelled.{blanks_some, words_some, words_joined}

blanks_map : {A : Type 0} (f : A → List ℕ) (xs : List A) → flat_map (λ x. 32 ∷ f x) xs ≡ blanks (map f xs)
blanks_map f [] = refl
blanks_map f (x ∷ xs) = ap (λ t. 32 ∷ (f x ++ t)) (blanks_map f xs)

-- what is written from left to right, grouped from the end
two_parts : (f x e : List ℕ) → f ++ x ++ e ≡ f ++ (x ++ e)
two_parts f x e = append_assoc f x e

three_parts : (f a x e : List ℕ) → f ++ a ++ x ++ e ≡ f ++ ((a ++ x) ++ e)
three_parts f a x e = simp append_assoc

four_parts : (f a g x e : List ℕ) → f ++ a ++ g ++ x ++ e ≡ f ++ ((a ++ (g ++ x)) ++ e)
four_parts f a g x e = simp append_assoc

five_parts : (f a b c x e : List ℕ) → f ++ a ++ b ++ c ++ x ++ e ≡ f ++ ((a ++ (b ++ (c ++ x))) ++ e)
five_parts f a b c x e = simp append_assoc

six_parts : (f a b c d x e : List ℕ) → f ++ a ++ b ++ c ++ d ++ x ++ e ≡ f ++ ((a ++ (b ++ (c ++ (d ++ x)))) ++ e)
six_parts f a b c d x e = simp append_assoc

pub query_line-is : (query : Query) → query_line query ≡ line_text (query_shown query).words
query_line-is query =
    two_parts (codes "query: ") (query_text query) (10 ∷ [])
    ∙ ap (λ t. codes "query:" ++ (t ++ 10 ∷ [])) (ap (λ t. 32 ∷ t) (sym (words_joined false (query_text query))) ∙ sym (blanks_some (words_in false (query_text query)) (words_some false (query_text query))))

pub variables_line-is : (q : Resolved) → variables_line q ≡ line_text (variables_shown q).words
variables_line-is q = ap (λ t. codes "variables" ++ t ++ 10 ∷ []) (blanks_map variable_text q.variables)

pub term_line-is : (i : ℕ) (t : Term) → term_line i t ≡ line_text (term_shown i t).words
term_line-is i t =
    ap (λ x. codes "term " ++ decimal i ++ codes " disjunct " ++ decimal t.disjunct ++ codes " choice" ++ x ++ 10 ∷ []) (blanks_map decimal t.choice)
    ∙ six_parts (codes "term ") (decimal i) (codes " disjunct ") (decimal t.disjunct) (codes " choice") (blanks (map decimal t.choice)) (10 ∷ [])

pub row_line-is : (schema : SchemaValue) (q : Resolved) (t : Tab) (r : ℕ) (o : Origin) → row_line schema q t r o ≡ line_text (row_shown schema q t r o).words
row_line-is schema q t r o =
    let v = variable_text (variable_at q o.variable) in
    let name = name_at (object_names schema) o.object in
    let shown = attributes_shown schema o.object in
    ap (λ x. codes "  row " ++ decimal r ++ 32 ∷ v ++ 32 ∷ name ++ x ++ 10 ∷ []) (blanks_map (cell_shown schema q (row_of t r)) shown)
    ∙ five_parts (codes "  row ") (decimal r) (32 ∷ v) (32 ∷ name) (blanks (map (cell_shown schema q (row_of t r)) shown)) (10 ∷ [])

pub head_line-is : (schema : SchemaValue) (q : Resolved) (t : Tab) → head_line schema q t ≡ line_text (head_shown schema q t).words
head_line-is schema q t = ap (λ x. codes "  head" ++ x ++ 10 ∷ []) (blanks_map (symbol_text schema q) (take t.outputs t.head))

pub compare_line-is : (schema : SchemaValue) (q : Resolved) (t : Tab) (i : ℕ) → compare_line schema q t i ≡ line_text (compare_shown schema q t i).words
compare_line-is schema q t i =
    let l = symbol_at schema q t.head (t.outputs + 2 * i) in
    let op = operator_at t.operators i in
    let r = symbol_at schema q t.head (t.outputs + 2 * i + 1) in
    four_parts (codes "  compare ") l (32 ∷ op) (32 ∷ r) (10 ∷ [])
    ∙ ap (λ x. codes "  compare " ++ ((l ++ (32 ∷ op ++ 32 ∷ x)) ++ 10 ∷ [])) (sym (append-nil r))

pub kept_line-is : (m : Minimised) → kept_line m ≡ line_text ([] ∷ [] ∷ codes "kept" ∷ map decimal (row_numbers m.tableau m.mask))
kept_line-is m = ap (λ x. codes "  kept" ++ x ++ 10 ∷ []) (blanks_map decimal (row_numbers m.tableau m.mask))

pub fold_line-is : (m : Minimised) → fold_line m ≡ line_text ([] ∷ [] ∷ codes "fold" ∷ map decimal m.fold)
fold_line-is m = ap (λ x. codes "  fold" ++ x ++ 10 ∷ []) (blanks_map decimal m.fold)

pub sources_line-is : (schema : SchemaValue) (r : ℕ) (set : FinSet nat_cmp) → sources_line schema r set ≡ line_text ([] ∷ [] ∷ codes "sources" ∷ decimal r ∷ names_in (object_names schema) set)
sources_line-is schema r set = three_parts (codes "  sources ") (decimal r) (blanks (names_in (object_names schema) set)) (10 ∷ [])

pub cover_line-is : (c : Cover) → cover_line c ≡ line_text (cover_shown c).words
cover_line-is c =
    ap (λ x. codes "  covered by term " ++ decimal c.by ++ codes " rows" ++ x ++ 10 ∷ []) (blanks_map decimal c.mapping.list)
    ∙ four_parts (codes "  covered by term ") (decimal c.by) (codes " rows") (blanks (map decimal c.mapping.list)) (10 ∷ [])

pub last_line-is : (terms : List Term) (reduced : Reduced) → last_line terms reduced ≡ line_text (count_shown terms reduced).words
last_line-is terms reduced =
    let n = decimal (length terms) in
    let k = decimal (length reduced.kept) in
    four_parts (codes "terms ") n (codes " kept ") k (10 ∷ []) ∙ ap (λ x. codes "terms " ++ ((n ++ (codes " kept " ++ x)) ++ 10 ∷ [])) (sym (append-nil k))
