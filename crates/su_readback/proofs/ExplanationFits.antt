-- The words of each line of an explanation are those of a line of its kind.
use Rattle.std.proofs.Common.{◌≡◌, ◌<◌, ◌≤◌, ℕ, ◌+◌, true, List, [], ◌∷◌, ◌++◌, map, length, refl, ap, ◌∙◌, arith}
use Rattle.std.specs.Prelude.{◌==◌, ◌||◌, nat_lt, codes, decimal}
use lib.ListN.{length-map}
use Rattle.std.specs.List.{list_all, list_any, AllByRecursion}
use Rattle.std.proofs.Math.Bool.{or-true}
use Rattle.std.proofs.lemmas.Bool.Decides.{nat_tests}
use Rattle.su_min.specs.declared.reduced.Cover.{Cover}
use Rattle.su_min.specs.declared.reduced.Reduced.{Reduced}
use Rattle.su_query.specs.declared.resolving.Resolved.{Resolved}
use Rattle.su_schema.specs.SchemaValue.{SchemaValue}
use Rattle.su_schema.specs.Entries.{attribute_names}
use Rattle.su_ddl.specs.ShownDefinitions.{name_at}
use Rattle.su_steps.specs.declared.results.Origin.{Origin}
use Rattle.su_steps.specs.declared.results.Term.{Term}
use Rattle.su_tableau.specs.declared.symbols.Sym.{Sym}
use Rattle.su_tableau.specs.Tableaux.{Tab}
use Rattle.su_map.specs.Lists.{row_of}
use Rattle.su_show.specs.RowLines.{attributes_shown}
use Rattle.su_show.specs.Symbols.{symbol_at}
use Rattle.su_explained.specs.declared.states.State.{State}
use Rattle.su_explained.specs.declared.kinds.Kind.TheVariants as line
use Rattle.su_explained.specs.Checks.{is_decimal, is_decimal_below, cells}
use Rattle.su_explained.specs.Kinds.{kind_in, inner_kind_of}
use Rattle.su_explained.specs.Lines.{fits}
use Rattle.su_readback.specs.Explanations.{cell_shown, row_shown, term_shown, cover_shown, count_shown}
use Rattle.su_readback.proofs.Closed.{both}
use Rattle.su_readback.proofs.Fits.{more_than}
use Rattle.su_readback.proofs.Decimals.{is_decimal-decimal, below-decimal}

pub inner_front : (word : List ℕ) (ws : List (List ℕ)) → kind_in ([] ∷ [] ∷ word ∷ ws) ≡ inner_kind_of word
unfolding kind_in
inner_front word ws = refl

pub is_number : (k n : ℕ) → k ≡ n → n < 1000 → is_decimal k (decimal n) ≡ true
is_number k n e h = ap (λ m. is_decimal m (decimal n)) e ∙ is_decimal-decimal n h

pub all_below : (end : ℕ) (ns : List ℕ) → end ≤ 1000 → AllByRecursion (λ n. n < end) ns → list_all (is_decimal_below end) (map decimal ns) ≡ true
all_below end [] few h = refl
all_below end (n ∷ ns) few h = both _ _ (below-decimal end n h.0 (omega (arith, few, h.0))) (all_below end ns few h.1)

has_equal : (a b : List ℕ) → list_any (λ c. c == 61) ((a ++ 61 ∷ []) ++ b) ≡ true
has_equal [] b = refl
has_equal (x ∷ xs) b = ap (λ t. (x == 61) || t) (has_equal xs b) ∙ or-true (x == 61)

cells_are : (schema : SchemaValue) (q : Resolved) (symbols : List Sym) (ks : List ℕ) → cells (map (cell_shown schema q symbols) ks) ≡ true
cells_are schema q symbols [] = refl
cells_are schema q symbols (k ∷ ks) = both _ _ (has_equal (name_at (attribute_names schema) k) (symbol_at schema q symbols k)) (cells_are schema q symbols ks)

pub row_fits-is : (s : State) (schema : SchemaValue) (q : Resolved) (t : Tab) (r : ℕ) (o : Origin) → s.rows ≡ r → r < 1000 → fits s line.Row (row_shown schema q t r o).words ≡ true
row_fits-is s schema q t r o e h = both _ _ (is_number s.rows r e h) (cells_are schema q (row_of t r) (attributes_shown schema o.object))

pub term_fits-is : (s : State) (i : ℕ) (t : Term) → s.terms ≡ i → i < 1000 → t.disjunct < 1000 → AllByRecursion (λ n. n < 1000) t.choice → fits s line.Term (term_shown i t).words ≡ true
term_fits-is s i t e h d c =
    both _ _ (both _ _ (both _ _ (both _ _ (is_number s.terms i e h) refl) (below-decimal 1000 t.disjunct d d)) refl) (all_below 1000 t.choice (omega arith) c)

pub long_enough : {A : Type 0} (f : A → List ℕ) (word : List ℕ) (xs : List A) → 0 < length xs → nat_lt 3 (length ([] ∷ [] ∷ word ∷ map f xs)) ≡ true
long_enough f word xs h = more_than 3 _ (omega (arith, length-map xs f, h))

pub kept_fits-is : (s : State) (rows : List ℕ) → 0 < length rows → s.rows < 1000 → AllByRecursion (λ r. r < s.rows) rows → fits s line.Kept ([] ∷ [] ∷ codes "kept" ∷ map decimal rows) ≡ true
kept_fits-is s rows some few h = both _ _ (long_enough decimal (codes "kept") rows some) (all_below s.rows rows (omega (arith, few)) h)

pub fold_fits-is : (s : State) (rows : List ℕ) → length rows ≡ s.rows → s.rows < 1000 → AllByRecursion (λ r. r < s.rows) rows → fits s line.Fold ([] ∷ [] ∷ codes "fold" ∷ map decimal rows) ≡ true
fold_fits-is s rows all few h =
    let count : length (map decimal rows) ≡ length rows = length-map rows decimal in
    let long : (length ([] ∷ [] ∷ codes "fold" ∷ map decimal rows) == s.rows + 3) ≡ true = grind (arith, nat_tests, count, all) in
    both _ _ long (all_below s.rows rows (omega (arith, few)) h)

pub sources_fit-is : (s : State) (r : ℕ) (objects : List (List ℕ)) → r < s.rows → s.rows < 1000 → s.sources < s.kept → fits s line.Sources ([] ∷ [] ∷ codes "sources" ∷ decimal r ∷ objects) ≡ true
sources_fit-is s r objects h few more = both _ _ (below-decimal s.rows r h (omega (arith, h, few))) (more_than s.sources s.kept more)

pub cover_fits-is : (s : State) (c : Cover) → c.by < 1000 → s.rows < 1000 → AllByRecursion (λ r. r < s.rows) c.mapping.list → fits s line.Covered (cover_shown c).words ≡ true
cover_fits-is s c by few h = both _ _ (both _ _ (below-decimal 1000 c.by by by) refl) (all_below s.rows c.mapping.list (omega (arith, few)) h)

pub count_fits-is : (s : State) (terms : List Term) (reduced : Reduced) → s.terms ≡ length terms → length terms < 1000 → s.kept_terms ≡ length reduced.kept → length reduced.kept < 1000
    → fits s line.Count (count_shown terms reduced).words ≡ true
count_fits-is s terms reduced e h f k = both _ _ (both _ _ (is_number s.terms (length terms) e h) refl) (is_number s.kept_terms (length reduced.kept) f k)
