-- An explanation is read as its lines.
-- The idea: term by term the kept ones are counted, which stand in ascending order; at the end all of them are.
use Rattle.std.proofs.Common.{◌≡◌, ◌<◌, ◌≤◌, ◌+◌, ℕ, zero, suc, true, false, List, [], ◌∷◌, ◌++◌, length, Option, Some, None, ⊎_elim, refl, sym, ap, ◌∙◌, subst, arith, All, AllPairs}
use Rattle.std.specs.Prelude.{◌⊎◌, nat_lt, Contains, codes}
use lib.ListN.{length-map}
use Rattle.std.specs.List.{range_with_len, AllByRecursion}
use Rattle.std.proofs.lemmas.List.Elements.{All-contains}
use Rattle.su_base.proofs.Items.{Contains-nil, Contains-head, Contains-later, Contains-cases}
use Rattle.su_map.specs.Lists.{row_numbers}
use Rattle.su_min.specs.declared.reduced.Reduced.{Reduced}
use Rattle.su_min.specs.Kept.{Minimised}
use Rattle.su_query.specs.declared.resolving.Resolved.{Resolved}
use Rattle.su_query.specs.Operands.{IsVariable}
use Rattle.su_query.specs.Shown.{query_text}
use Rattle.su_show.specs.QueryCauses.{variable_text}
use Rattle.su_schema.specs.SchemaValue.{SchemaValue}
use Rattle.su_schema.specs.Valid.{IsValid}
use Rattle.su_steps.specs.declared.results.Term.{Term}
use Rattle.su_show.specs.Lines.{AreLines}
use Rattle.su_show.specs.Explanations.{query_line, variables_line, last_line, IsTermText}
use Rattle.su_show.specs.MinimalLines.{minimal_lines}
use Rattle.su_show.specs.TableauLines.{tableau_lines}
use Rattle.su_explained.specs.declared.kinds.Kind.{Kind}
use Rattle.su_explained.specs.declared.kinds.Kind.TheVariants as line
use Rattle.su_explained.specs.declared.states.State.{State}
use Rattle.su_explained.specs.declared.reading.Line.{Line}
use Rattle.su_explained.specs.Kinds.{kind_in, outer_kind_of}
use Rattle.su_explained.specs.Pieces.{cut_of}
use Rattle.su_explained.specs.Ranks.{between_terms}
use Rattle.su_explained.specs.States.{at_start}
use Rattle.su_explained.specs.TextLines.{AreLinesOf}
use Rattle.su_readback.specs.Words.{lines_text}
use Rattle.su_readback.specs.Explanations.{words_in, query_shown, variables_shown, tableau_shown, minimal_shown, AreTermsShown, count_shown}
use Rattle.su_readback.specs.ExplanationsRead.{AreTold, ExplanationsAreRead}
use Rattle.su_readback.proofs.Closed.{both, decimal_closed}
use Rattle.su_readback.proofs.Cut.{texts_cut}
use Rattle.su_readback.proofs.Fits.{kind_front, more_than}
use Rattle.su_readback.proofs.SchemasRead.{words_of, read_pieces}
use Rattle.su_readback.proofs.ExplanationTexts.{query_line-is, variables_line-is, last_line-is}
use Rattle.su_readback.proofs.ExplanationWords.{query_closed, variables_closed}
use Rattle.su_readback.proofs.ExplanationFits.{count_fits-is}
use Rattle.su_readback.proofs.Spelled.{IsSome, words_some}
use Rattle.su_readback.proofs.TermRead.{Reads, reads_append, reads_nothing, reads_line, told, has_room, tableau_read, minimal_read, end_read}

-- ---- the kept terms that are still to come

-- strictly ascending, from this number on
abbrev Rising : ℕ → List ℕ → Type 0
Rising i [] = Unit {0}
Rising i (x ∷ xs) = (i ≤ x) × Rising (x + 1) xs

rising_from : (i : ℕ) (xs : List ℕ) → AllPairs (λ x y. x < y) xs → All (λ x. i ≤ x) xs → Rising i xs
rising_from i [] pairs all = tt
rising_from i (x ∷ xs) pairs all =
    (all 0 0 (omega arith), rising_from (x + 1) xs (λ j k d l m. pairs (suc j) (suc k) d (omega (arith, l)) (omega (arith, m))) (λ k d l. let h = pairs 0 (suc k) d (omega arith) (omega (arith, l)) in omega (arith, h)))

rising_least : (i : ℕ) (xs : List ℕ) (y : ℕ) → Rising i xs → Contains xs y → i ≤ y
rising_least i [] y r c = absurd (Contains-nil y c)
rising_least i (x ∷ xs) y r c = ⊎_elim
    (λ same. omega (arith, same, r.0))
    (λ later. omega (arith, r.0, rising_least (x + 1) xs y r.1 later))
    (Contains-cases x xs y c)

-- those of the kept terms from a number on are these
record AreLeft (kept : List ℕ) (i k : ℕ) (rest : List ℕ) : Type 0 where
  rising : Rising i rest
  count : k + length rest ≡ length kept
  there : (y : ℕ) → i ≤ y → Contains kept y → Contains rest y
  here : (y : ℕ) → Contains rest y → Contains kept y

-- one of them is the next
left_kept : (kept : List ℕ) (i k : ℕ) (rest : List ℕ) → AreLeft kept i k rest → Contains kept i → (others : List ℕ) × AreLeft kept (i + 1) (k + 1) others
left_kept kept i k [] l has = absurd (Contains-nil i (l.there i (omega arith) has))
left_kept kept i k (x ∷ xs) l has =
    let at : x ≡ i = ⊎_elim
    (λ same. same)
    (λ later. let least = rising_least (x + 1) xs i l.rising.1 later in absurd (omega (arith, least, l.rising.0)))
    (Contains-cases x xs i (l.there i (omega arith) has)) in
    let count = l.count in (
      xs,
      record {
        rising = subst (λ (n : ℕ). Rising (n + 1) xs) at l.rising.1;
        count = omega (arith, count);
        there = λ y le c. ⊎_elim (λ same. absurd (omega (arith, same, at, le))) (λ later. later) (Contains-cases x xs y (l.there y (omega (arith, le)) c));
        here = λ y c. l.here y (Contains-later x xs y c);
      },
    )

-- or none is
left_dropped : (kept : List ℕ) (i k : ℕ) (rest : List ℕ) → AreLeft kept i k rest → ¬ Contains kept i → AreLeft kept (i + 1) k rest
left_dropped kept i k [] l dropped = record { rising = tt; count = l.count; there = λ y le c. l.there y (omega (arith, le)) c; here = l.here }
left_dropped kept i k (x ∷ xs) l dropped =
    let other : x ≡ i → ⊥ = λ same. dropped (subst (λ (n : ℕ). Contains kept n) same (l.here x (Contains-head x xs))) in
    let low = l.rising.0 in
    record {
      rising = (omega (arith, low, other), l.rising.1);
      count = l.count;
      there = λ y le c. l.there y (omega (arith, le)) c;
      here = l.here;
    }

-- behind all terms none is left
left_none : (kept : List ℕ) (n k : ℕ) (rest : List ℕ) → AreLeft kept n k rest → All (λ i. i < n) kept → k ≡ length kept
left_none kept n k [] l all = let count = l.count in omega (arith, count)
left_none kept n k (x ∷ xs) l all =
    let below = All-contains (λ (i : ℕ). i < n) kept x all (l.here x (Contains-head x xs)) in
    let low = l.rising.0 in
    absurd (omega (arith, below, low))

-- ---- terms

-- what is left, and that no more terms are kept than there were
record NextLeft (kept : List ℕ) (i k : ℕ) : Type 0 where
  others : List ℕ
  left : AreLeft kept i k others
  few : k ≤ i

next_left : (kept : List ℕ) (i k after : ℕ) (rest : List ℕ) → AreLeft kept i k rest → k ≤ i → (Contains kept i × (after ≡ k + 1)) ⊎ ((¬ Contains kept i) × (after ≡ k)) → NextLeft kept (i + 1) after
next_left kept i k after rest l few c = ⊎_elim
    (λ has.
    let r = left_kept kept i k rest l has.0 in
    record { others = r.0; left = subst (λ (n : ℕ). AreLeft kept (i + 1) n r.0) (sym has.1) r.1; few = omega (arith, has.1, few) })
    (λ dropped. record { others = rest; left = subst (λ (n : ℕ). AreLeft kept (i + 1) n rest) (sym dropped.1) (left_dropped kept i k rest l dropped.0); few = omega (arith, dropped.1, few) })
    c

module _ (schema : SchemaValue) (valid : IsValid schema) (q : Resolved) (named : AllByRecursion IsVariable q.variables) (terms : List Term) (minimals : List Minimised) (reduced : Reduced)
    (are : AreTold terms minimals reduced) where
  -- the terms from a number on are read, up to the last
  record TermsRead (i n : ℕ) (s : State) (text : List ℕ) : Type 0 where
    lines : List Line
    shown : AreTermsShown schema q terms minimals reduced (range_with_len i n) lines
    last : Option Kind
    rows : ℕ
    kp : ℕ
    sources : ℕ
    between : between_terms (told last (length terms) (length reduced.kept) rows kp sources) last ≡ true
    few_rows : rows < 1000
    few_sources : sources < 1000
    few_kept : length reduced.kept < 1000
    reads : Reads s text lines (told last (length terms) (length reduced.kept) rows kp sources)

  terms_read : (n i k r kp src : ℕ) (last : Option Kind) (rest : List ℕ) (text : List ℕ) → i + n ≡ length terms → k ≤ i → r < 1000 → src < 1000 → between_terms (told last i k r kp src) last ≡ true
      → AreLeft reduced.kept i k rest → AreLines (IsTermText schema q terms minimals reduced) (range_with_len i n) text → TermsRead i n (told last i k r kp src) text
  terms_read zero i k r kp src last rest text e low few_rows few_sources between left is =
      let at : i ≡ length terms = omega (arith, e) in
      let count : k ≡ length reduced.kept = left_none reduced.kept (length terms) k rest (subst (λ (n : ℕ). AreLeft reduced.kept n k rest) at left) are.within in
      let s = told last i k r kp src in
      let same : s ≡ told last (length terms) (length reduced.kept) r kp src = ap (λ t. told last t k r kp src) at ∙ ap (λ c. told last (length terms) c r kp src) count in
      let few = are.few in
      record {
        lines = [];
        shown = refl;
        last = last;
        rows = r;
        kp = kp;
        sources = src;
        between = ap (λ (t : State). between_terms t last) (sym same) ∙ between;
        few_rows = few_rows;
        few_sources = few_sources;
        few_kept = omega (arith, count, low, at, few);
        reads = subst (λ (t : State). Reads s text [] t) same (subst (λ (x : List ℕ). Reads s x [] s) (sym is) (reads_nothing s));
      }
  terms_read (suc n) i k r kp src last rest text e low few_rows few_sources between left is =
      let t = is.3 in
      let term = t.term in
      let minimal = t.minimal in
      let told_is = are.told i term minimal t.term_is t.minimal_is in
      let few = are.few in
      let few_terms : i + 1 < 1000 = omega (arith, e, few) in
      let few_kept : k < 1000 = omega (arith, low, few_terms) in
      let os = length term.origins in
      let kept_rows = length (row_numbers minimal.tableau minimal.mask) in
      let s0 = told last i k r kp src in
      let a = tableau_read schema valid q named i k r kp src last term few_terms few_kept few_rows few_sources between told_is.disjunct told_is.choice told_is.some_rows told_is.few_rows told_is.outputs in
      let s1 = told a.end (i + 1) k os kp 0 in
      let b = minimal_read schema valid q named (i + 1) k few_terms few_kept minimal a.end os kp a.may told_is.few_rows told_is.some_kept told_is.kept told_is.fold_length told_is.fold in
      let s2 = told (Some line.Fold) (i + 1) k os kept_rows 0 in
      let c = end_read schema valid q named reduced i minimal term t.end (i + 1) k few_terms (omega (arith, low, few_terms)) told_is.few_rows told_is.some_kept told_is.few_kept told_is.kept
      (are.covered i term t.term_is) t.end_is in
      let s3 = told c.last (i + 1) c.kept os kept_rows c.sources in
      let next = next_left reduced.kept i k c.kept rest left low c.counted in
      let d = terms_read n (i + 1) c.kept os kept_rows c.sources c.last next.others is.1 (omega (arith, e)) next.few told_is.few_rows c.few c.between next.left is.4 in
      let end = told d.last (length terms) (length reduced.kept) d.rows d.kp d.sources in
      let ab = reads_append s0 s1 s2 (tableau_lines schema q i term) (minimal_lines minimal) (tableau_shown schema q i term) (minimal_shown minimal) a.reads b in
      let abc = reads_append s0 s2 s3 (tableau_lines schema q i term ++ minimal_lines minimal) t.end (tableau_shown schema q i term ++ minimal_shown minimal) c.lines ab c.reads in
      let lines = tableau_shown schema q i term ++ minimal_shown minimal ++ c.lines in
      let all = reads_append s0 s3 end (tableau_lines schema q i term ++ minimal_lines minimal ++ t.end) is.1 lines d.lines abc d.reads in
      let text_is : text ≡ (tableau_lines schema q i term ++ minimal_lines minimal ++ t.end) ++ is.1 = is.2 ∙ ap (λ x. x ++ is.1) t.is in
      record {
        lines = lines ++ d.lines;
        shown = (term, minimal, c.lines, d.lines, t.term_is, t.minimal_is, c.shown, refl {a = lines ++ d.lines}, d.shown);
        last = d.last;
        rows = d.rows;
        kp = d.kp;
        sources = d.sources;
        between = d.between;
        few_rows = d.few_rows;
        few_sources = d.few_sources;
        few_kept = d.few_kept;
        reads = subst (λ (x : List ℕ). Reads s0 x (lines ++ d.lines) end) (sym text_is) all;
      }

-- ---- the whole

query_kind : (ws : List (List ℕ)) → kind_in (codes "query:" ∷ ws) ≡ Some line.Query
unfolding outer_kind_of
query_kind ws = kind_front _ _ ws

variables_kind : (ws : List (List ℕ)) → kind_in (codes "variables" ∷ ws) ≡ Some line.Variables
unfolding outer_kind_of
variables_kind ws = kind_front _ _ ws

count_kind : (ws : List (List ℕ)) → kind_in (codes "terms" ∷ ws) ≡ Some line.Count
unfolding outer_kind_of
count_kind ws = kind_front _ _ ws

some_length : (ws : List (List ℕ)) → IsSome ws → 0 < length ws
some_length [] h = absurd h
some_length (w ∷ ws) h = omega arith

pub explanations_read : ExplanationsAreRead
explanations_read schema query q terms minimals reduced text valid symbols some named are is =
    let s0 = told None 0 0 0 0 0 in
    let s1 = told (Some line.Query) 0 0 0 0 0 in
    let s2 = told (Some line.Variables) 0 0 0 0 0 in
    let words = words_in false (query_text query) in
    let long : nat_lt 1 (length (query_shown query).words) ≡ true = more_than 1 _ (omega (arith, some_length words (words_some false (query_text query)))) in
    let many : nat_lt 1 (length (variables_shown q).words) ≡ true = more_than 1 _ (omega (arith, length-map q.variables variable_text, some)) in
    let a : Reads s0 (query_line query) (query_shown query ∷ []) s1 =
    reads_line s0 s1 (query_shown query) (query_line query) (query_line-is query) (query_closed query symbols) (query_kind words) refl refl long refl in
    let b : Reads s1 (variables_line q) (variables_shown q ∷ []) s2 =
    reads_line s1 s2 (variables_shown q) (variables_line q) (variables_line-is q) (variables_closed q.variables named) (variables_kind _) refl refl many refl in
    let left : AreLeft reduced.kept 0 0 reduced.kept =
    record { rising = rising_from 0 reduced.kept are.ascending (λ j d l. omega arith); count = omega arith; there = λ y le c. c; here = λ y c. c } in
    let c = terms_read schema valid q named terms minimals reduced are (length terms) 0 0 0 0 0 (Some line.Variables) reduced.kept is.body (omega arith) (omega arith) (omega arith) (omega arith) refl left is.terms_are in
    let n = length terms in
    let k = length reduced.kept in
    let s3 = told c.last n k c.rows c.kp c.sources in
    let s4 = told (Some line.Count) n k c.rows c.kp c.sources in
    let d : Reads s3 (last_line terms reduced) (count_shown terms reduced ∷ []) s4 =
    reads_line s3 s4 (count_shown terms reduced) (last_line terms reduced) (last_line-is terms reduced) (both _ _ (decimal_closed n) (both _ _ (decimal_closed k) refl)) (count_kind _)
    (has_room c.last n k c.rows c.kp c.sources are.few c.few_kept c.few_rows c.few_sources) c.between (count_fits-is s3 terms reduced refl are.few refl c.few_kept) refl in
    let ab = reads_append s0 s1 s2 (query_line query) (variables_line q) (query_shown query ∷ []) (variables_shown q ∷ []) a b in
    let abc = reads_append s0 s2 s3 (query_line query ++ variables_line q) is.body (query_shown query ∷ variables_shown q ∷ []) c.lines ab c.reads in
    let lines : List Line = query_shown query ∷ variables_shown q ∷ (c.lines ++ count_shown terms reduced ∷ []) in
    let all : Reads s0 (query_line query ++ variables_line q ++ is.body ++ last_line terms reduced) lines s4 =
    reads_append s0 s3 s4 (query_line query ++ variables_line q ++ is.body) (last_line terms reduced) (query_shown query ∷ variables_shown q ∷ c.lines) (count_shown terms reduced ∷ []) abc d in
    let cut = texts_cut (words_of lines) all.closed in
    let read : AreLinesOf (lines_text (words_of lines)) lines = record {
      end = s4;
      read = read_pieces at_start s4 (cut_of (lines_text (words_of lines))).pieces lines cut.0 all.follow;
      ends = both _ _ cut.1 refl;
    } in
    (lines, record { body = c.lines; terms_are = c.shown; are = refl }, subst (λ (x : List ℕ). AreLinesOf x lines) (sym (is.is ∙ all.text_is)) read)
