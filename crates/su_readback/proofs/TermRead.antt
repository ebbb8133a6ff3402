-- The lines of a term may stand one behind the other, and are read as what was shown.
-- The idea: a state with a term's numbers goes from line to line.
use Rattle.std.proofs.Common.{◌≡◌, ◌<◌, ◌+◌, ℕ, true, false, cond, List, [], ◌∷◌, ◌++◌, map, flat_map, length, take, Option, Some, None, inl, inr, ⊎_elim, refl, sym, ap, ◌∙◌, subst, append_assoc, append-nil, arith}
use Rattle.std.specs.Prelude.{◌==◌, ◌-◌, ◌⊎◌, Contains, codes, decimal}
use lib.ListN.{length-map}
use Rattle.std.specs.List.{list_all, range_with_len, AllByRecursion}
use Rattle.std.specs.Ordering.{nat_cmp}
use Rattle.std.specs.FinSet.{FinSet}
use Rattle.std.proofs.lemmas.Bool.Decides.{nat_tests}
use Rattle.std.proofs.lemmas.List.{map-append}
use Rattle.std.proofs.lemmas.Grind.{flat_map-append}
use Rattle.std.proofs.lemmas.List.Folds.{list_all-append}
use Rattle.su_map.specs.Lists.{row_numbers}
use Rattle.su_min.specs.declared.reduced.Cover.{Cover}
use Rattle.su_min.specs.declared.reduced.Reduced.{Reduced}
use Rattle.su_min.specs.Kept.{Minimised}
use Rattle.su_query.specs.declared.resolving.Resolved.{Resolved}
use Rattle.su_query.specs.Operands.{IsVariable}
use Rattle.su_schema.specs.SchemaValue.{SchemaValue}
use Rattle.su_schema.specs.Valid.{IsValid}
use Rattle.su_schema.specs.Entries.{object_names}
use Rattle.su_ddl.specs.ShownDefinitions.{names_in}
use Rattle.su_steps.specs.declared.results.Origin.{Origin}
use Rattle.su_steps.specs.declared.results.Term.{Term}
use Rattle.su_tableau.specs.Tableaux.{Tab}
use Rattle.su_show.specs.Lines.{AreLines}
use Rattle.su_show.specs.MinimalLines.{minimal_lines, kept_line, fold_line, IsSourcesLine, sources_line, cover_of, cover_line, cover_text, IsEnd}
use Rattle.su_show.specs.RowLines.{row_line, row_lines}
use Rattle.su_show.specs.Symbols.{symbol_text}
use Rattle.su_show.specs.TableauLines.{term_line, head_line, compare_line, compare_lines, tableau_lines}
use Rattle.su_explained.specs.declared.kinds.Kind.{Kind}
use Rattle.su_explained.specs.declared.kinds.Kind.TheVariants as line
use Rattle.su_explained.specs.declared.states.State.{State}
use Rattle.su_explained.specs.declared.reading.Line.{Line}
use Rattle.su_explained.specs.Pieces.{line_text}
use Rattle.su_explained.specs.Kinds.{kind_in, inner_kind_of, outer_kind_of}
use Rattle.su_explained.specs.Lines.{fits}
use Rattle.su_explained.specs.Order.{follows}
use Rattle.su_explained.specs.Ranks.{between_terms}
use Rattle.su_explained.specs.States.{has_room_in, state_behind}
use Rattle.su_readback.specs.Words.{lines_text, are_closed}
use Rattle.su_readback.specs.Explanations.{inner_line, term_shown, row_shown, rows_shown, head_shown, compare_shown, tableau_shown, minimal_shown, AreSourcesShown, cover_shown, IsEndShown}
use Rattle.su_readback.specs.ExplanationsRead.{IsCovered}
use Rattle.su_readback.proofs.Closed.{both}
use Rattle.su_readback.proofs.SchemasRead.{Follow, follow_append, words_of, one_step}
use Rattle.su_readback.proofs.Fits.{kind_front, more_than, same_byte}
use Rattle.su_readback.proofs.ExplanationTexts.{term_line-is, row_line-is, head_line-is, compare_line-is, kept_line-is, fold_line-is, sources_line-is, cover_line-is}
use Rattle.su_readback.proofs.ExplanationWords.{decimals_closed, term_closed, row_closed, head_closed, compare_closed, sources_closed, cover_closed}
use Rattle.su_readback.proofs.ExplanationFits.{inner_front, long_enough, term_fits-is, row_fits-is, kept_fits-is, fold_fits-is, sources_fit-is, cover_fits-is}

-- ---- texts that are read as lines

-- the text is that of the lines, which are closed and may stand one behind the other, from one state to another
pub record Reads (s : State) (text : List ℕ) (lines : List Line) (end : State) : Type 0 where
  pub text_is : text ≡ lines_text (words_of lines)
  pub closed : list_all are_closed (words_of lines) ≡ true
  pub follow : Follow s lines end

pub reads_append : (s m end : State) (t u : List ℕ) (ks ls : List Line) → Reads s t ks m → Reads m u ls end → Reads s (t ++ u) (ks ++ ls) end
reads_append s m end t u ks ls a b =
    let words : words_of (ks ++ ls) ≡ words_of ks ++ words_of ls = map-append (λ (l : Line). l.words) ks ls in
    record {
      text_is = ap (λ x. x ++ u) a.text_is ∙ ap (λ x. lines_text (words_of ks) ++ x) b.text_is ∙ sym (flat_map-append line_text (words_of ks) (words_of ls)) ∙ ap lines_text (sym words);
      closed = ap (list_all are_closed) words ∙ list_all-append are_closed (words_of ks) (words_of ls) ∙ both _ _ a.closed b.closed;
      follow = follow_append s m end ks ls a.follow b.follow;
    }

pub reads_nothing : (s : State) → Reads s [] [] s
reads_nothing s = record { text_is = refl; closed = refl; follow = refl }

pub reads_line : (s end : State) (l : Line) (text : List ℕ) → text ≡ line_text l.words → are_closed l.words ≡ true → kind_in l.words ≡ Some l.kind → has_room_in s ≡ true
    → follows s l.kind s.last ≡ true → fits s l.kind l.words ≡ true → state_behind s l.kind (length l.words) ≡ end → Reads s text (l ∷ []) end
reads_line s end l text t c k room there fit e = record {
  text_is = t ∙ sym (append-nil (line_text l.words));
  closed = both _ _ c refl;
  follow = (k, (end, one_step s l.kind l.words k room there fit ∙ ap Some e, refl));
}

-- ---- states

-- behind a line of an explanation: how many terms and kept terms there were, and of the last term how many rows, kept rows and sources
abbrev pub told : Option Kind → ℕ → ℕ → ℕ → ℕ → ℕ → State
told last t k r kp src = record { last = last; terms = t; kept_terms = k; rows = r; kept = kp; sources = src; maximal = 0 }

pub has_room : (last : Option Kind) (t k r kp src : ℕ) → t < 1000 → k < 1000 → r < 1000 → src < 1000 → has_room_in (told last t k r kp src) ≡ true
has_room last t k r kp src a b c d =
    both _ _ (both _ _ (both _ _ (both _ _ (more_than t 1000 a) (more_than k 1000 b)) (more_than r 1000 c)) (more_than src 1000 d)) refl

-- ---- kinds of lines

term_kind : (ws : List (List ℕ)) → kind_in (codes "term" ∷ ws) ≡ Some line.Term
unfolding outer_kind_of
term_kind ws = kind_front _ _ ws

row_kind : (ws : List (List ℕ)) → kind_in ([] ∷ [] ∷ codes "row" ∷ ws) ≡ Some line.Row
unfolding inner_kind_of
row_kind ws = inner_front (codes "row") ws

head_kind : (ws : List (List ℕ)) → kind_in ([] ∷ [] ∷ codes "head" ∷ ws) ≡ Some line.Head
unfolding inner_kind_of
head_kind ws = inner_front (codes "head") ws

compare_kind : (ws : List (List ℕ)) → kind_in ([] ∷ [] ∷ codes "compare" ∷ ws) ≡ Some line.Compare
unfolding inner_kind_of
compare_kind ws = inner_front (codes "compare") ws

kept_kind : (ws : List (List ℕ)) → kind_in ([] ∷ [] ∷ codes "kept" ∷ ws) ≡ Some line.Kept
unfolding inner_kind_of
kept_kind ws = inner_front (codes "kept") ws

fold_kind : (ws : List (List ℕ)) → kind_in ([] ∷ [] ∷ codes "fold" ∷ ws) ≡ Some line.Fold
unfolding inner_kind_of
fold_kind ws = inner_front (codes "fold") ws

sources_kind : (ws : List (List ℕ)) → kind_in ([] ∷ [] ∷ codes "sources" ∷ ws) ≡ Some line.Sources
unfolding inner_kind_of
sources_kind ws = inner_front (codes "sources") ws

covered_kind : (ws : List (List ℕ)) → kind_in ([] ∷ [] ∷ codes "covered" ∷ ws) ≡ Some line.Covered
unfolding inner_kind_of
covered_kind ws = inner_front (codes "covered") ws

-- a line may stand behind this one, whatever was counted
abbrev pub MayStand : Kind → Option Kind → Type 0
MayStand kind last = (s : State) → follows s kind last ≡ true

-- the text is that of the sources of these kept rows
record SourcesRead (schema : SchemaValue) (m : Minimised) (rs : List ℕ) (text : List ℕ) (s end : State) : Type 0 where
  lines : List Line
  shown : AreSourcesShown schema m rs lines
  reads : Reads s text lines end

module _ (schema : SchemaValue) (valid : IsValid schema) (q : Resolved) (named : AllByRecursion IsVariable q.variables) (t k : ℕ) (few_terms : t < 1000) (few_kept : k < 1000) where
  -- ---- rows, the head and comparisons

  row_read : (tab : Tab) (kp j n : ℕ) (o : Origin) (last : Option Kind) → MayStand line.Row last → j + 1 ≡ n → n < 1000
      → Reads (told last t k j kp 0) (row_line schema q tab j o) (row_shown schema q tab j o ∷ []) (told (Some line.Row) t k n kp 0)
  row_read tab kp j n o last may e few =
      let s = told last t k j kp 0 in
      let low : j < 1000 = omega (arith, e, few) in
      reads_line s (told (Some line.Row) t k n kp 0) (row_shown schema q tab j o) (row_line schema q tab j o) (row_line-is schema q tab j o) (row_closed schema valid q named tab j o) (row_kind _)
      (has_room last t k j kp 0 few_terms few_kept low (omega arith)) (may s) (row_fits-is s schema q tab j o refl low) (ap (λ r. told (Some line.Row) t k r kp 0) e)

  rows_read : (tab : Tab) (kp : ℕ) (o : Origin) (os : List Origin) (j n : ℕ) (last : Option Kind) → MayStand line.Row last → j + length (o ∷ os) ≡ n → n < 1000
      → Reads (told last t k j kp 0) (row_lines schema q tab j (o ∷ os)) (rows_shown schema q tab j (o ∷ os)) (told (Some line.Row) t k n kp 0)
  rows_read tab kp o [] j n last may e few =
      let s = told (Some line.Row) t k n kp 0 in
      reads_append (told last t k j kp 0) s s (row_line schema q tab j o) [] (row_shown schema q tab j o ∷ []) [] (row_read tab kp j n o last may (omega (arith, e)) few) (reads_nothing s)
  rows_read tab kp o (p ∷ os) j n last may e few =
      reads_append (told last t k j kp 0) (told (Some line.Row) t k (j + 1) kp 0) (told (Some line.Row) t k n kp 0) (row_line schema q tab j o) (row_lines schema q tab (j + 1) (p ∷ os))
      (row_shown schema q tab j o ∷ []) (rows_shown schema q tab (j + 1) (p ∷ os)) (row_read tab kp j (j + 1) o last may refl (omega (arith, e, few)))
      (rows_read tab kp p os (j + 1) n (Some line.Row) (λ s. refl) (omega (arith, e)) few)

  head_read : (tab : Tab) (kp r : ℕ) → r < 1000 → 0 < length (take tab.outputs tab.head)
      → Reads (told (Some line.Row) t k r kp 0) (head_line schema q tab) (head_shown schema q tab ∷ []) (told (Some line.Head) t k r kp 0)
  head_read tab kp r few some =
      reads_line (told (Some line.Row) t k r kp 0) (told (Some line.Head) t k r kp 0) (head_shown schema q tab) (head_line schema q tab) (head_line-is schema q tab) (head_closed schema valid q named tab) (head_kind _)
      (has_room (Some line.Row) t k r kp 0 few_terms few_kept few (omega arith)) refl (long_enough (symbol_text schema q) (codes "head") (take tab.outputs tab.head) some) refl

  record ComparesRead (tab : Tab) (kp r : ℕ) (last : Option Kind) (is : List ℕ) : Type 0 where
    end : Option Kind
    may : MayStand line.Kept end
    reads : Reads (told last t k r kp 0) (flat_map (compare_line schema q tab) is) (map (compare_shown schema q tab) is) (told end t k r kp 0)

  compares_read : (tab : Tab) (kp r : ℕ) (is : List ℕ) (last : Option Kind) → MayStand line.Compare last → MayStand line.Kept last → r < 1000 → ComparesRead tab kp r last is
  compares_read tab kp r [] last may kept few = record { end = last; may = kept; reads = reads_nothing (told last t k r kp 0) }
  compares_read tab kp r (i ∷ is) last may kept few =
      let s = told last t k r kp 0 in
      let m = told (Some line.Compare) t k r kp 0 in
      let one : Reads s (compare_line schema q tab i) (compare_shown schema q tab i ∷ []) m =
      reads_line s m (compare_shown schema q tab i) (compare_line schema q tab i) (compare_line-is schema q tab i) (compare_closed schema valid q named tab i) (compare_kind _)
      (has_room last t k r kp 0 few_terms few_kept few (omega arith)) (may s) refl refl in
      let rest = compares_read tab kp r is (Some line.Compare) (λ s. refl) (λ s. refl) few in
      record {
        end = rest.end;
        may = rest.may;
        reads = reads_append s m (told rest.end t k r kp 0) (compare_line schema q tab i) (flat_map (compare_line schema q tab) is) (compare_shown schema q tab i ∷ []) (map (compare_shown schema q tab) is) one rest.reads;
      }

  -- ---- what is kept

  kept_read : (m : Minimised) (last : Option Kind) (r kp : ℕ) → MayStand line.Kept last → r < 1000 → 0 < length (row_numbers m.tableau m.mask) → AllByRecursion (λ n. n < r) (row_numbers m.tableau m.mask)
      → Reads (told last t k r kp 0) (kept_line m) (inner_line line.Kept (codes "kept" ∷ map decimal (row_numbers m.tableau m.mask)) ∷ []) (told (Some line.Kept) t k r (length (row_numbers m.tableau m.mask)) 0)
  kept_read m last r kp may few some below =
      let rows = row_numbers m.tableau m.mask in
      let s = told last t k r kp 0 in
      let l = inner_line line.Kept (codes "kept" ∷ map decimal rows) in
      let count : length l.words - 3 ≡ length rows = omega (arith, length-map rows decimal) in
      reads_line s (told (Some line.Kept) t k r (length rows) 0) l (kept_line m) (kept_line-is m) (decimals_closed rows) (kept_kind _)
      (has_room last t k r kp 0 few_terms few_kept few (omega arith)) (may s) (kept_fits-is s rows some few below) (ap (λ n. told (Some line.Kept) t k r n 0) count)

  fold_read : (m : Minimised) (r kp : ℕ) → r < 1000 → length m.fold ≡ r → AllByRecursion (λ n. n < r) m.fold
      → Reads (told (Some line.Kept) t k r kp 0) (fold_line m) (inner_line line.Fold (codes "fold" ∷ map decimal m.fold) ∷ []) (told (Some line.Fold) t k r kp 0)
  fold_read m r kp few all below =
      let s = told (Some line.Kept) t k r kp 0 in
      reads_line s (told (Some line.Fold) t k r kp 0) (inner_line line.Fold (codes "fold" ∷ map decimal m.fold)) (fold_line m) (fold_line-is m) (decimals_closed m.fold) (fold_kind _)
      (has_room (Some line.Kept) t k r kp 0 few_terms few_kept few (omega arith)) refl (fold_fits-is s m.fold all few below) refl

  cover_read : (c : Cover) (r kp : ℕ) → r < 1000 → c.by < 1000 → AllByRecursion (λ n. n < r) c.mapping.list
      → Reads (told (Some line.Fold) t k r kp 0) (cover_line c) (cover_shown c ∷ []) (told (Some line.Covered) t k r kp 0)
  cover_read c r kp few by below =
      let s = told (Some line.Fold) t k r kp 0 in
      reads_line s (told (Some line.Covered) t k r kp 0) (cover_shown c) (cover_line c) (cover_line-is c) (cover_closed c) (covered_kind _) (has_room (Some line.Fold) t k r kp 0 few_terms few_kept few (omega arith)) refl
      (cover_fits-is s c by few below) refl

  -- ---- sources

  abbrev sources_shown : ℕ → FinSet nat_cmp → Line
  sources_shown n set = inner_line line.Sources (codes "sources" ∷ decimal n ∷ names_in (object_names schema) set)

  source_read : (r kp j kept : ℕ) (n : ℕ) (set : FinSet nat_cmp) (last : Option Kind) → MayStand line.Sources last → r < 1000 → n < r → j < kp → kp < 1000 → cond (j == 0) (k + 1) k ≡ kept
      → Reads (told last t k r kp j) (sources_line schema n set) (sources_shown n set ∷ []) (told (Some line.Sources) t kept r kp (j + 1))
  source_read r kp j kept n set last may few below more room e =
      let s = told last t k r kp j in
      reads_line s (told (Some line.Sources) t kept r kp (j + 1)) (sources_shown n set) (sources_line schema n set) (sources_line-is schema n set) (sources_closed schema valid q named n set) (sources_kind _)
      (has_room last t k r kp j few_terms few_kept few (omega (arith, more, room))) (may s) (sources_fit-is s n (names_in (object_names schema) set) below few more)
      (ap (λ c. told (Some line.Sources) t c r kp (j + 1)) e)

  -- behind the first
  sources_more : (m : Minimised) (r kp : ℕ) (rs : List ℕ) (j : ℕ) (text : List ℕ) → r < 1000 → kp < 1000 → 0 < j → j + length rs ≡ kp → AllByRecursion (λ n. n < r) rs → AreLines (IsSourcesLine schema m) rs text
      → SourcesRead schema m rs text (told (Some line.Sources) t k r kp j) (told (Some line.Sources) t k r kp kp)
  sources_more m r kp [] j text few room first e below is =
      let at : j ≡ kp = omega (arith, e) in
      record {
        lines = [];
        shown = refl;
        reads = subst (λ (x : List ℕ). Reads (told (Some line.Sources) t k r kp j) x [] (told (Some line.Sources) t k r kp kp)) (sym is)
            (subst (λ (n : ℕ). Reads (told (Some line.Sources) t k r kp j) [] [] (told (Some line.Sources) t k r kp n)) at (reads_nothing (told (Some line.Sources) t k r kp j)));
      }
  sources_more m r kp (n ∷ rs) j text few room first e below is =
      let set = is.3.sources in
      let other : (j == 0) ≡ false = grind (arith, nat_tests, first) in
      let s = told (Some line.Sources) t k r kp j in
      let next = told (Some line.Sources) t k r kp (j + 1) in
      let one = source_read r kp j k n set (Some line.Sources) (λ s. refl) few below.0 (omega (arith, e)) room (ap (λ b. cond b (k + 1) k) other) in
      let rest = sources_more m r kp rs (j + 1) is.1 few room (omega arith) (omega (arith, e)) below.1 is.4 in
      let text_is : text ≡ sources_line schema n set ++ is.1 = is.2 ∙ ap (λ x. x ++ is.1) is.3.is in
      record {
        lines = sources_shown n set ∷ rest.lines;
        shown = (set, rest.lines, is.3.are, refl, rest.shown);
        reads = subst (λ (x : List ℕ). Reads s x (sources_shown n set ∷ rest.lines) (told (Some line.Sources) t k r kp kp)) (sym text_is)
            (reads_append s next (told (Some line.Sources) t k r kp kp) (sources_line schema n set) is.1 (sources_shown n set ∷ []) rest.lines one rest.reads);
      }

  -- ---- a term down to its comparisons

  rows_some : (tab : Tab) (kp : ℕ) (os : List Origin) → 0 < length os → length os < 1000
      → Reads (told (Some line.Term) t k 0 kp 0) (row_lines schema q tab 0 os) (rows_shown schema q tab 0 os) (told (Some line.Row) t k (length os) kp 0)
  rows_some tab kp [] some few = absurd (omega (arith, some))
  rows_some tab kp (o ∷ os) some few = rows_read tab kp o os 0 (length (o ∷ os)) (Some line.Term) (λ s. refl) (omega arith) few

  -- what is kept of a term, behind its comparisons
  pub minimal_read : (m : Minimised) (last : Option Kind) (r kp : ℕ) → MayStand line.Kept last → r < 1000 → 0 < length (row_numbers m.tableau m.mask) → AllByRecursion (λ n. n < r) (row_numbers m.tableau m.mask)
      → length m.fold ≡ r → AllByRecursion (λ n. n < r) m.fold
      → Reads (told last t k r kp 0) (minimal_lines m) (minimal_shown m) (told (Some line.Fold) t k r (length (row_numbers m.tableau m.mask)) 0)
  minimal_read m last r kp may few some below all fold =
      let rows = row_numbers m.tableau m.mask in
      reads_append (told last t k r kp 0) (told (Some line.Kept) t k r (length rows) 0) (told (Some line.Fold) t k r (length rows) 0) (kept_line m) (fold_line m)
      (inner_line line.Kept (codes "kept" ∷ map decimal rows) ∷ []) (inner_line line.Fold (codes "fold" ∷ map decimal m.fold) ∷ []) (kept_read m last r kp may few some below) (fold_read m r (length rows) few all fold)

-- a text is read as lines that end behind a line with these counts
pub record TableauRead (s : State) (text : List ℕ) (lines : List Line) (t k r kp : ℕ) : Type 0 where
  pub end : Option Kind
  pub may : MayStand line.Kept end
  pub reads : Reads s text lines (told end t k r kp 0)

-- what stands behind the fold of a term with this number
pub record EndRead (schema : SchemaValue) (reduced : Reduced) (i : ℕ) (m : Minimised) (text : List ℕ) (t k r : ℕ) : Type 0 where
  pub lines : List Line
  pub shown : IsEndShown schema reduced i m lines
  pub last : Option Kind
  pub kept : ℕ
  pub sources : ℕ
  pub between : between_terms (told last t kept r (length (row_numbers m.tableau m.mask)) sources) last ≡ true
  pub few : sources < 1000
  pub counted : (Contains reduced.kept i × (kept ≡ k + 1)) ⊎ ((¬ Contains reduced.kept i) × (kept ≡ k))
  pub reads : Reads (told (Some line.Fold) t k r (length (row_numbers m.tableau m.mask)) 0) text lines (told last t kept r (length (row_numbers m.tableau m.mask)) sources)

module _ (schema : SchemaValue) (valid : IsValid schema) (q : Resolved) (named : AllByRecursion IsVariable q.variables) where
  pub tableau_read : (i k r kp src : ℕ) (last : Option Kind) (term : Term) → i + 1 < 1000 → k < 1000 → r < 1000 → src < 1000 → between_terms (told last i k r kp src) last ≡ true
      → term.disjunct < 1000 → AllByRecursion (λ n. n < 1000) term.choice → 0 < length term.origins → length term.origins < 1000 → 0 < length (take term.tableau.outputs term.tableau.head)
      → TableauRead (told last i k r kp src) (tableau_lines schema q i term) (tableau_shown schema q i term) (i + 1) k (length term.origins) kp
  tableau_read i k r kp src last term few_terms few_kept few_rows few_sources between disjunct choice some few outputs =
      let tab = term.tableau in
      let os = term.origins in
      let t = i + 1 in
      let n = length os in
      let is = range_with_len 0 (length tab.operators) in
      let s0 = told last i k r kp src in
      let s1 = told (Some line.Term) t k 0 kp 0 in
      let s2 = told (Some line.Row) t k n kp 0 in
      let s3 = told (Some line.Head) t k n kp 0 in
      let low : i < 1000 = omega (arith, few_terms) in
      let a : Reads s0 (term_line i term) (term_shown i term ∷ []) s1 =
      reads_line s0 s1 (term_shown i term) (term_line i term) (term_line-is i term) (term_closed i term) (term_kind _) (has_room last i k r kp src low few_kept few_rows few_sources) between
      (term_fits-is s0 i term refl low disjunct choice) refl in
      let b = rows_some schema valid q named t k few_terms few_kept tab kp os some few in
      let c = head_read schema valid q named t k few_terms few_kept tab kp n few outputs in
      let d = compares_read schema valid q named t k few_terms few_kept tab kp n is (Some line.Head) (λ s. refl) (λ s. refl) few in
      let s4 = told d.end t k n kp 0 in
      let rows = rows_shown schema q tab 0 os in
      let head = head_shown schema q tab in
      let compares = map (compare_shown schema q tab) is in
      let ab = reads_append s0 s1 s2 (term_line i term) (row_lines schema q tab 0 os) (term_shown i term ∷ []) rows a b in
      let abc = reads_append s0 s2 s3 (term_line i term ++ row_lines schema q tab 0 os) (head_line schema q tab) (term_shown i term ∷ rows) (head ∷ []) ab c in
      let abcd = reads_append s0 s3 s4 (term_line i term ++ row_lines schema q tab 0 os ++ head_line schema q tab) (compare_lines schema q tab) (term_shown i term ∷ (rows ++ head ∷ [])) compares abc d.reads in
      record {
        end = d.end;
        may = d.may;
        reads = subst (λ (x : List Line). Reads s0 (tableau_lines schema q i term) (term_shown i term ∷ x) s4) (append_assoc rows (head ∷ []) compares) abcd;
      }

  sources_all : (t k r : ℕ) (m : Minimised) (rs : List ℕ) (text : List ℕ) → t < 1000 → k + 1 < 1000 → r < 1000 → 0 < length rs → length rs < 1000 → AllByRecursion (λ n. n < r) rs
      → AreLines (IsSourcesLine schema m) rs text
      → SourcesRead schema m rs text (told (Some line.Fold) t k r (length rs) 0) (told (Some line.Sources) t (k + 1) r (length rs) (length rs))
  sources_all t k r m [] text few_terms few_kept few some room below is = absurd (omega (arith, some))
  sources_all t k r m (n ∷ rs) text few_terms few_kept few some room below is =
      let kp = length (n ∷ rs) in
      let set = is.3.sources in
      let low : k < 1000 = omega (arith, few_kept) in
      let s = told (Some line.Fold) t k r kp 0 in
      let next = told (Some line.Sources) t (k + 1) r kp 1 in
      let end = told (Some line.Sources) t (k + 1) r kp kp in
      let shown = sources_shown schema valid q named t k few_terms low n set in
      let one : Reads s (sources_line schema n set) (shown ∷ []) next =
      source_read schema valid q named t k few_terms low r kp 0 (k + 1) n set (Some line.Fold) (λ s. refl) few below.0 some room refl in
      let rest = sources_more schema valid q named t (k + 1) few_terms few_kept m r kp rs 1 is.1 few room (omega arith) (omega arith) below.1 is.4 in
      let text_is : text ≡ sources_line schema n set ++ is.1 = is.2 ∙ ap (λ x. x ++ is.1) is.3.is in
      record {
        lines = shown ∷ rest.lines;
        shown = (set, rest.lines, is.3.are, refl, rest.shown);
        reads = subst (λ (x : List ℕ). Reads s x (shown ∷ rest.lines) end) (sym text_is) (reads_append s next end (sources_line schema n set) is.1 (shown ∷ []) rest.lines one rest.reads);
      }

  cover_end : (reduced : Reduced) (i : ℕ) (m : Minimised) (term : Term) (text : List ℕ) (t k : ℕ) (x : Option Cover) → t < 1000 → k < 1000 → length term.origins < 1000 → cover_of reduced i ≡ x
      → ¬ Contains reduced.kept i → IsCovered term x → text ≡ cover_text x → EndRead schema reduced i m text t k (length term.origins)
  cover_end reduced i m term text t k None few_terms few_kept few e dropped is text_is = absurd is
  cover_end reduced i m term text t k (Some c) few_terms few_kept few e dropped is text_is =
      let r = length term.origins in
      let kp = length (row_numbers m.tableau m.mask) in
      record {
        lines = cover_shown c ∷ [];
        shown = inr (dropped, c, e, refl);
        last = Some line.Covered;
        kept = k;
        sources = 0;
        between = refl;
        few = omega arith;
        counted = inr (dropped, refl);
        reads = subst (λ (x : List ℕ). Reads (told (Some line.Fold) t k r kp 0) x (cover_shown c ∷ []) (told (Some line.Covered) t k r kp 0)) (sym text_is)
            (cover_read schema valid q named t k few_terms few_kept c r kp few is.0 is.1);
      }

  pub end_read : (reduced : Reduced) (i : ℕ) (m : Minimised) (term : Term) (text : List ℕ) (t k : ℕ) → t < 1000 → k + 1 < 1000 → length term.origins < 1000 → 0 < length (row_numbers m.tableau m.mask)
      → length (row_numbers m.tableau m.mask) < 1000 → AllByRecursion (λ n. n < length term.origins) (row_numbers m.tableau m.mask)
      → ((¬ Contains reduced.kept i) → IsCovered term (cover_of reduced i)) → IsEnd schema reduced i m text → EndRead schema reduced i m text t k (length term.origins)
  end_read reduced i m term text t k few_terms few_kept few some room below covered is = ⊎_elim
      (λ has.
      let rows = row_numbers m.tableau m.mask in
      let r = sources_all t k (length term.origins) m rows text few_terms few_kept few some room below has.1 in
      record {
        lines = r.lines;
        shown = inl (has.0, r.shown);
        last = Some line.Sources;
        kept = k + 1;
        sources = length rows;
        between = same_byte (length rows);
        few = room;
        counted = inl (has.0, refl);
        reads = r.reads;
      })
      (λ dropped. cover_end reduced i m term text t k (cover_of reduced i) few_terms (omega (arith, few_kept)) few refl dropped.0 (covered dropped.0) dropped.1)
      is
