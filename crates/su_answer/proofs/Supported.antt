-- What `reduce` leaves of the edges of a task is what is left of its rows' candidates.
use Rattle.std.proofs.Common.{◌≡◌, ◌↔◌, ◌<◌, ℕ, zero, suc, Bool, true, false, List, [], ◌∷◌, map, length, get_or, Contains, All, Option, refl, sym, ap, subst, ◌∙◌, arith}
use Rattle.std.specs.Prelude.{IsTrue, None, Some, is_some, MatchOption}
use Rattle.std.specs.List.{AllZip, range_with_len}
use Rattle.std.proofs.lemmas.List.{get_or_default, get_or-map, length-map}
use Rattle.std.proofs.lemmas.Bool.{true≢false}
use Rattle.std.proofs.lemmas.List.Elements.{All-get_or, All-from_get_or}
use Rattle.std.proofs.lemmas.List.FromFn.{length-range_with_len}
use Rattle.su_base.specs.declared.values.Value.{Value}
use Rattle.std.proofs.lemmas.Grind.{same_number_lists}
use Rattle.su_base.proofs.Items.{AllZip-get_or, AllZip-length, get_or-map_range}
use Rattle.su_base.specs.Lists.{AllDiffer}
use Rattle.su_rel.specs.Stored.{Stored}
use Rattle.su_tableau.specs.declared.symbols.Sym.{Sym}
use Rattle.su_tableau.specs.Valuations.{values_of}
use Rattle.su_map.specs.Lists.{row_numbers}
use Rattle.su_reduce.specs.declared.edges.Edge.{Edge}
use Rattle.su_reduce.specs.declared.support.Counted.{Counted}
use Rattle.su_reduce.specs.declared.support.Support.{Support}
use Rattle.su_reduce.specs.Ears.{AreAcyclic, cells_of}
use Rattle.su_reduce.proofs.MarkedItems.{marked_from, marked_has}
use Rattle.su_reduce.specs.Left.{edge_at, candidates_at, marked, Chooses, IsLeft, AreLeft}
use Rattle.su_exec.specs.declared.tasks.TaskRow.{TaskRow}
use Rattle.su_exec.specs.declared.tasks.Task.{Task}
use Rattle.su_exec.specs.Tasks.{no_row}
use Rattle.su_state.specs.DatabaseValue.{DatabaseValue}
use Rattle.su_state.proofs.DifferentRows.{differ_tail}
use Rattle.su_min.specs.Kept.{Minimised}
use Rattle.su_answer.specs.Joined.{IsTaskRowOf}
use Rattle.su_answer.specs.Support.{IsCandidate, IsLeftOver, IsCountOf, IsLeftCount, IsSupport}
use Rattle.su_answer.specs.inside.Alone.{IsEdgeOf}
use Rattle.su_answer.specs.inside.Supported.{AreEdgesOf, count_left, counted_at}

-- ---- marked rows

pub marked_differ : (ms : List Bool) (xs : List (List Value)) → AllDiffer xs → AllDiffer (marked ms xs)
marked_differ [] xs differ i j d l h e = absurd (omega (arith, h))
marked_differ (m ∷ ms) [] differ i j d l h e = absurd (omega (arith, h))
marked_differ (false ∷ ms) (x ∷ xs) differ i j d l h e = marked_differ ms xs (differ_tail x xs differ) i j d l h e
marked_differ (true ∷ ms) (x ∷ xs) differ i zero d l h e = absurd (omega (arith, l))
marked_differ (true ∷ ms) (x ∷ xs) differ zero (suc j) d l h e =
    let low : j < length (marked ms xs) = omega (arith, h) in
    let at = marked_from ms xs x (j, low, get_or_default (marked ms xs) j x d low ∙ sym e) in
    let p_low = at.1 in
    differ 0 (suc at.0) x (omega arith) (omega (arith, p_low)) (sym at.3)
marked_differ (true ∷ ms) (x ∷ xs) differ (suc i) (suc j) d l h e = marked_differ ms xs (differ_tail x xs differ) i j d (omega (arith, l)) (omega (arith, h)) e

-- ---- rows and their edges

abbrev row_at : List TaskRow → ℕ → TaskRow
row_at rows i = get_or rows i no_row

same_cells : (tables : List Stored) (rows : List TaskRow) (edges : List Edge) → AllZip (IsEdgeOf tables) rows edges → cells_of edges ≡ map (λ (r : TaskRow). r.cells) rows
same_cells tables [] [] h = refl
same_cells tables [] (e ∷ edges) h = absurd h
same_cells tables (r ∷ rows) [] h = absurd h
same_cells tables (r ∷ rows) (e ∷ edges) h = let i = same_cells tables rows edges h.1 in let j = h.0.cells in cc

module _ (tables : List Stored) (task : Task) (edges : List Edge) (are : AllZip (IsEdgeOf tables) task.rows edges) where
  long : length task.rows ≡ length edges
  long = AllZip-length (IsEdgeOf tables) task.rows edges are

  edge_is : (i : ℕ) → i < length task.rows → IsEdgeOf tables (row_at task.rows i) (edge_at edges i)
  edge_is i l = AllZip-get_or (IsEdgeOf tables) task.rows edges i no_row (record { cells = []; candidates = [] }) are l

  abbrev HasCandidate : (ℕ → Value) → TaskRow → Type 0
  HasCandidate v r = IsCandidate tables r (values_of v r.cells)

  chooses_all : (v : ℕ → Value) → Chooses v edges → All (HasCandidate v) task.rows
  chooses_all v c = All-from_get_or (HasCandidate v) task.rows no_row (λ i l.
      let is = edge_is i l in
      let low : i < length edges = omega (arith, l, long) in
      (is.exact (values_of v (row_at task.rows i).cells)).0 (subst (λ (cs : List Sym). Contains (candidates_at edges i) (values_of v cs)) is.cells (c i low)))

  chooses_each : (v : ℕ → Value) → All (HasCandidate v) task.rows → Chooses v edges
  chooses_each v all i l =
      let low : i < length task.rows = omega (arith, l, long) in
      let is = edge_is i low in
      subst (λ (cs : List Sym). Contains (candidates_at edges i) (values_of v cs)) (sym is.cells)
      ((is.exact (values_of v (row_at task.rows i).cells)).1 (All-get_or (HasCandidate v) task.rows i no_row low all))

  pub candidate_count : (i : ℕ) → i < length task.rows → IsCountOf (IsCandidate tables (row_at task.rows i)) (length (candidates_at edges i))
  candidate_count i l = let is = edge_is i l in record { lists = candidates_at edges i; members = is.exact; differ = is.once; count = refl }

  module _ (i : ℕ) (l : i < length task.rows) (rows : List (List Value)) (left : AreLeft edges i rows) where
    is_left_over : (h : List Value) → Contains rows h → IsLeftOver tables task (row_at task.rows i) h
    is_left_over h c =
        let at = marked_from left.marks (candidates_at edges i) h (subst (λ (xs : List (List Value)). Contains xs h) left.rows_are c) in
        let p = at.0 in
        let low = at.1 in
        let each = left.each in
        let in_marks : p < length left.marks = omega (arith, low, each) in
        let is = (left.exact p in_marks).0 at.2 in
        let same : get_or (candidates_at edges i) p [] ≡ h = get_or_default (candidates_at edges i) p [] h low ∙ at.3 in
        record {
          valuation = is.valuation;
          chooses = chooses_all is.valuation is.chooses;
          gives = ap (values_of is.valuation) (sym (edge_is i l).cells) ∙ is.gives ∙ same;
        }

    has_left_over : (h : List Value) → IsLeftOver tables task (row_at task.rows i) h → Contains rows h
    has_left_over h o =
        let v = o.valuation in
        let is = edge_is i l in
        let row = row_at task.rows i in
        let cands : List (List Value) = candidates_at edges i in
        let c = (is.exact (values_of v row.cells)).1 (All-get_or (HasCandidate v) task.rows i no_row l o.chooses) in
        let p = c.0 in
        let low = c.1 in
        let each = left.each in
        let in_marks : p < length left.marks = omega (arith, low, each) in
        let same : get_or cands p [] ≡ h = get_or_default cands p [] (values_of v row.cells) low ∙ c.2 ∙ o.gives in
        let is_left : IsLeft edges i (get_or cands p []) = record { valuation = v; chooses = chooses_each v o.chooses; gives = ap (values_of v) is.cells ∙ o.gives ∙ sym same } in
        let has = marked_has left.marks cands p [] low ((left.exact p in_marks).1 is_left) in
        subst (λ (xs : List (List Value)). Contains xs h) (sym left.rows_are) (subst (λ (x : List Value). Contains (marked left.marks cands) x) same has)

    pub left_count : IsCountOf (IsLeftOver tables task (row_at task.rows i)) (length rows)
    left_count = record {
      lists = rows;
      members = λ h. (is_left_over h, has_left_over h);
      differ = subst AllDiffer (sym left.rows_are) (marked_differ left.marks (candidates_at edges i) (edge_is i l).once);
      count = refl;
    }

  pub left_counted : (i : ℕ) → i < length task.rows → (left : Option (List (List (List Value)))) → MatchOption left (Unit {0}) (λ rows. (k : ℕ) → k < length edges → AreLeft edges k (get_or rows k []))
      → IsLeftCount tables task (is_some left) (row_at task.rows i) (count_left left i)
  left_counted i l None f = tt
  left_counted i l (Some rows) f = let low : i < length edges = omega (arith, l, long) in left_count i l (get_or rows i []) (f i low)

acyclic_if : (edges : List Edge) (left : Option (List (List (List Value)))) → MatchOption left (¬ AreAcyclic (cells_of edges)) (λ _. AreAcyclic (cells_of edges)) → IsTrue (is_some left) ↔ AreAcyclic (cells_of edges)
acyclic_if edges None f = (λ e. absurd (true≢false (sym e)), λ a. absurd (f a))
acyclic_if edges (Some rows) f = (λ e. f, λ a. refl)

-- ---- lists place by place

zip_by : {A B : Type 0} (R : A → B → Type 0) (xs : List A) (ys : List B) (d : A) (e : B) → length xs ≡ length ys → ((i : ℕ) → i < length xs → R (get_or xs i d) (get_or ys i e)) → AllZip R xs ys
zip_by R [] [] d e l h = tt
zip_by R [] (y ∷ ys) d e l h = absurd (let no : ⊥ = omega (arith, l) in no)
zip_by R (x ∷ xs) [] d e l h = absurd (let no : ⊥ = omega (arith, l) in no)
zip_by R (x ∷ xs) (y ∷ ys) d e l h = (h 0 (omega arith), zip_by R xs ys d e (omega (arith, l)) (λ i low. h (suc i) (omega (arith, low))))

-- ---- the whole

pub numbers_long : (db : DatabaseValue) (m : Minimised) (edges : List Edge) → AreEdgesOf db m edges → length (row_numbers m.tableau m.mask) ≡ length edges
numbers_long db m edges are = AllZip-length (IsTaskRowOf db.schema m.tableau m.mask) (row_numbers m.tableau m.mask) are.task.rows are.is_task.rows ∙ long db.tables are.task edges are.each

abbrev no_count : Counted
no_count = record { row = 0; candidates = 0; left = None }

module _ (db : DatabaseValue) (m : Minimised) (edges : List Edge) (of_kept : AreEdgesOf db m edges)
    (left : Option (List (List (List Value)))) (cyclic : MatchOption left (¬ AreAcyclic (cells_of edges)) (λ _. AreAcyclic (cells_of edges)))
    (rest : MatchOption left (Unit {0}) (λ rows. (k : ℕ) → k < length edges → AreLeft edges k (get_or rows k []))) where
  abbrev task : Task
  task = of_kept.task

  abbrev are : AllZip (IsEdgeOf db.tables) of_kept.task.rows edges
  are = of_kept.each

  abbrev numbers : List ℕ
  numbers = row_numbers m.tableau m.mask

  abbrev counts : List Counted
  counts = map (counted_at numbers edges left) (range_with_len 0 (length edges))

  counts_long : length task.rows ≡ length counts
  counts_long = long db.tables task edges are ∙ sym (length-map (range_with_len 0 (length edges)) (counted_at numbers edges left) ∙ length-range_with_len 0 (length edges))

  count_is : (i : ℕ) → i < length task.rows → counted_at numbers edges left i ≡ get_or counts i no_count
  count_is i l = let e = long db.tables task edges are in sym (get_or-map_range (counted_at numbers edges left) (length edges) i no_count (omega (arith, l, e)))

  rows_are : map (λ (c : Counted). c.row) counts ≡ numbers
  rows_are =
      let n = numbers_long db m edges of_kept in
      let e = counts_long in
      let k = long db.tables task edges are in
      let a : length (map (λ (c : Counted). c.row) counts) ≡ length counts = length-map counts (λ (c : Counted). c.row) in
      same_number_lists (map (λ (c : Counted). c.row) counts) numbers (omega (arith, n, e, k, a)) (λ i low.
      let within : i < length counts = omega (arith, low, a) in
      get_or-map (λ (c : Counted). c.row) counts i no_count 0 within ∙ ap (λ (c : Counted). c.row) (sym (count_is i (omega (arith, within, e)))))

  pub support_is : (s : Support) → s.acyclic ≡ is_some left → s.rows ≡ counts → IsSupport db m s
  support_is s known same = record {
    task = task;
    is_task = of_kept.is_task;
    numbers = ap (map (λ (c : Counted). c.row)) same ∙ rows_are;
    acyclic = subst (λ (b : Bool). IsTrue b ↔ AreAcyclic (map (λ (r : TaskRow). r.cells) task.rows)) (sym known)
        (subst (λ (cells : List (List Sym)). IsTrue (is_some left) ↔ AreAcyclic cells) (same_cells db.tables task.rows edges are) (acyclic_if edges left cyclic));
    candidates = subst (λ (cs : List Counted). AllZip (λ r c. IsCountOf (IsCandidate db.tables r) c.candidates) task.rows cs) (sym same)
        (zip_by (λ (r : TaskRow) (c : Counted). IsCountOf (IsCandidate db.tables r) c.candidates) task.rows counts no_row no_count counts_long (λ i l.
        subst (λ (c : Counted). IsCountOf (IsCandidate db.tables (row_at task.rows i)) c.candidates) (count_is i l) (candidate_count db.tables task edges are i l)));
    left = subst (λ (b : Bool). AllZip (λ r c. IsLeftCount db.tables task b r c.left) task.rows s.rows) (sym known)
        (subst (λ (cs : List Counted). AllZip (λ r c. IsLeftCount db.tables task (is_some left) r c.left) task.rows cs) (sym same)
        (zip_by (λ (r : TaskRow) (c : Counted). IsLeftCount db.tables task (is_some left) r c.left) task.rows counts no_row no_count counts_long (λ i l.
        subst (λ (c : Counted). IsLeftCount db.tables task (is_some left) (row_at task.rows i) c.left) (count_is i l) (left_counted db.tables task edges are i l left rest))));
  }
