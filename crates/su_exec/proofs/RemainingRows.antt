-- Rows are taken one by one from those that are left.
-- left: rows of the task for which nothing is fetched yet, by number
use Rattle.std.proofs.Common.{◌≡◌, ℕ, ◌+◌, ◌-◌, ◌<◌, ◌≤◌, ◌⊎◌, true, List, [], ◌∷◌, ◌++◌, Some, length, get_or, slice_get, Contains, refl, sym, ap, subst, ◌∙◌, inl, inr, ⊎_elim, arith, ◌↔◌}
use Rattle.std.specs.Prelude.{map, sum, All, slice_index_or}
use Rattle.std.specs.List.{range_with_len, remove}
use Rattle.std.proofs.lemmas.Bool.{cases_eq, cases_lt}
use Rattle.std.proofs.lemmas.List.{get_or-map, get_or_default, length-map, map_push, take_at, drop_at}
use Rattle.std.proofs.lemmas.List.Edits.{length-remove, get_or-remove_below, get_or-remove_above}
use Rattle.std.proofs.lemmas.List.Elements.{All-head, All-push, All-take, All-drop}
use Rattle.std.proofs.lemmas.List.FromFn.{length-range_with_len, get_or-range_with_len, fill_by_all}
use Rattle.std.proofs.lemmas.List.Sorted.{IsPermutation-map, IsPermutation-remove, sum_by-IsPermutation}
use Rattle.std.proofs.lemmas.List.Sums.{sum_by-cons}
use Rattle.std.proofs.lemmas.Option.{slice_get_within, slice_get-get_or, get_or_from_slice_get, same_Some}
use Rattle.su_base.specs.declared.values.Value.{Value}
use Rattle.su_rel.specs.Stored.{Stored}
use Rattle.su_tableau.specs.declared.symbols.Sym.TheVariants.{Var}
use Rattle.su_exec.specs.declared.tasks.Task.{Task}
use Rattle.su_exec.specs.declared.tasks.TaskRow.{TaskRow}
use Rattle.su_reduce.specs.Codes.{decode, Extends}
use Rattle.su_exec.specs.inside.Coded.{AreRowEdges, IsCoded, IsRowEdge, NoneAgrees, meaning, meanings}
use Rattle.su_exec.specs.inside.Edges.{Edge, Fits, FitsAll, among}
use Rattle.su_exec.specs.Outputs.{Agrees}
use Rattle.su_exec.specs.Shares.{row_share, task_share}
use Rattle.su_exec.proofs.Meanings.{edges_up, meanings_same}
use Rattle.su_exec.proofs.Parts.{All_removed, All_put_back}
use Rattle.su_exec.proofs.BodySteps.{among_first, among_last}
use Rattle.su_exec.specs.Tasks.{StandsIn, no_row}

-- row i agrees with a stored row
abbrev pub AgreesAt : List Stored → (ℕ → Value) → Task → ℕ → Type 0
AgreesAt tables v task i = (row : TaskRow) → slice_get task.rows i ≡ Some row → Agrees tables v row

-- the edges say that each row that isn't left agrees with a stored row
pub record AreSoFar (tables : List Stored) (values : List Value) (task : Task) (es : List (Edge ℕ)) (left : List ℕ) : Type 0 where
  pub exact : (v : ℕ → Value) → All (Agrees tables v) task.rows ↔ (FitsAll v (meanings values es) × All (AgreesAt tables v task) left)
  pub coded : All (IsCoded values) es
  pub all : (k i : ℕ) → StandsIn task k i → (among es k ≡ true) ⊎ Contains left i
  pub within : All (λ i. i < length task.rows) left

-- the shares of the rows that are left
abbrev pub left_share : List Stored → Task → List ℕ → ℕ
left_share tables task left = sum (map (λ i. row_share tables (slice_index_or task.rows i no_row)) left)

-- what all of a list and one more have
all_but_last : {X : Type 0} (P : X → Type 0) (xs : List X) (x : X) → All P (xs ++ x ∷ []) → All P xs × P x
all_but_last P xs x h = (
  subst (All P) (take_at xs (x ∷ []) (length xs) refl) (All-take P (length xs) (xs ++ x ∷ []) h),
  All-head P x [] (subst (All P) (drop_at xs (x ∷ []) (length xs) refl) (All-drop P (length xs) (xs ++ x ∷ []) h)),
)

contains_removed : (xs : List ℕ) (p x : ℕ) → p < length xs → Contains xs x → (get_or xs p 0 ≡ x) ⊎ Contains (remove xs p) x
contains_removed xs p x l h =
    let n = length-remove xs p l in
    let m = h.1 in
    ⊎_elim
    (λ (e : h.0 ≡ p). inl (get_or_default xs p 0 x l ∙ ap (λ i. get_or xs i x) (sym e) ∙ h.2))
    (λ (ne : h.0 ≡ p → ⊥).
    ⊎_elim
    (λ (b : h.0 < p). inr (h.0, omega arith, get_or-remove_below xs p x h.0 b l ∙ h.2))
    (λ (b : p ≤ h.0).
    let f : h.0 - 1 + 1 ≡ h.0 = omega arith in
    inr (h.0 - 1, omega arith, get_or-remove_above xs p x (h.0 - 1) (omega arith) l ∙ ap (λ i. get_or xs i x) f ∙ h.2))
    (cases_lt h.0 p))
    (cases_eq h.0 p)

-- what fits an edge fits one of its rows
fit_low : (values : List Value) (g : Edge ℕ) (v : ℕ → Value) → Fits v (meaning values g) → 0 < length g.rows
fit_low values g v fit =
    let l = fit.1 in
    let n = length-map g.rows (map (decode values)) in
    omega arith

module _ (tables : List Stored) (task : Task) where
  pub start : (values : List Value) (left : List ℕ) → left ≡ range_with_len 0 (length task.rows) → AreSoFar tables values task [] left
  start values left e =
      let n : length left ≡ length task.rows = ap length e ∙ length-range_with_len 0 (length task.rows) in
      let at : (i d : ℕ) → i < length left → get_or left i d ≡ i = λ i d l. let zero_more : 0 + i ≡ i = omega arith in ap (λ xs. get_or xs i d) e ∙ get_or-range_with_len 0 (length task.rows) i d (omega arith) ∙ zero_more in
      record {
        exact = λ v. (
          λ all. (λ k d l. absurd (omega arith), λ k d l row is. subst (Agrees tables v) (get_or_from_slice_get task.rows (get_or left k d) row row is) (all (get_or left k d) row (slice_get_within task.rows (get_or left k d) row is))),
          λ parts k d l.
              let low : k < length left = omega arith in
              parts.1 k 0 low (get_or task.rows k d) (ap (slice_get task.rows) (at k 0 low) ∙ slice_get-get_or task.rows k d l),
        );
        coded = λ k d l. absurd (omega arith);
        all = λ k i s. let b = s.below in inr (i, (let m : i < length left = omega arith in m), at i i (omega arith));
        within = λ k d l. let a = at k d l in omega arith;
      }

  pub share_start : (left : List ℕ) → left ≡ range_with_len 0 (length task.rows) → left_share tables task left ≡ task_share tables task
  share_start left e =
      let F : TaskRow → ℕ = row_share tables in
      let G : ℕ → ℕ = λ i. F (get_or task.rows i no_row) in
      let m = length-map task.rows F in
      ap (λ xs. sum (map G xs)) e ∙ sym (ap sum (fill_by_all G (map F task.rows) (length task.rows) 0 m (λ k l. get_or-map F task.rows k no_row 0 l)))

  pub share_step : (left rest : List ℕ) (p i : ℕ) (row : TaskRow) → p < length left → i ≡ get_or left p i → rest ≡ remove left p → slice_get task.rows i ≡ Some row → left_share tables task rest + row_share tables row ≡ left_share tables task left
  share_step left rest p i row l at is here =
      let G : ℕ → ℕ = λ i. row_share tables (get_or task.rows i no_row) in
      let a : sum (G i ∷ map G (remove left p)) ≡ sum (map G left) = sum_by-IsPermutation (λ x. x) (map G left) (G i ∷ map G (remove left p)) (IsPermutation-map G left (i ∷ remove left p) (IsPermutation-remove left p i l at)) in
      let b : sum (G i ∷ map G (remove left p)) ≡ G i + sum (map G (remove left p)) = sum_by-cons (λ x. x) (G i) (map G (remove left p)) in
      let c : sum (map G rest) ≡ sum (map G (remove left p)) = ap (λ xs. sum (map G xs)) is in
      let g : G i ≡ row_share tables row = ap (row_share tables) (get_or_from_slice_get task.rows i row no_row here) in
      omega arith

  module _ (olds news : List Value) (es : List (Edge ℕ)) (left rest : List ℕ) (p i : ℕ) (row : TaskRow) (g : Edge ℕ) (old : AreSoFar tables olds task es left) (more : Extends olds news) (low : p < length left) (at : i ≡ get_or left p i) (is : rest ≡ remove left p) (here : slice_get task.rows i ≡ Some row) (edge : IsRowEdge tables news es row g) where
    before : (v : ℕ → Value) → FitsAll v (meanings olds es) → FitsAll v (meanings news es)
    before v f = subst (FitsAll v) (sym (meanings_same olds news more es old.coded)) f

    row_agrees : (v : ℕ → Value) → All (AgreesAt tables v task) left → Agrees tables v row
    row_agrees v all = all p i low row (ap (slice_get task.rows) (sym at) ∙ here)

    pub step : AreSoFar tables news task (es ++ g ∷ []) rest
    step = record {
      exact = λ v.
          let P : Edge Value → Type 0 = λ e. Fits v e in
          let A : ℕ → Type 0 = AgreesAt tables v task in (
            λ all.
                let a = (old.exact v).0 all in
                let f = before v a.0 in
                let fit = (edge.exact v f).0 (row_agrees v a.1) in
                (subst (All P) (sym (map_push (meaning news) es g)) (All-push P (meanings news es) (meaning news g) f fit), subst (All A) (sym is) (All_removed A left p low a.1)),
            λ parts.
                let f = all_but_last P (meanings news es) (meaning news g) (subst (All P) (map_push (meaning news) es g) parts.0) in
                let agrees = (edge.exact v f.0).1 f.1 in
                let back = All_put_back A left p low (subst (All A) is parts.1) (λ d row' e.
                let e' : slice_get task.rows i ≡ Some row' = ap (slice_get task.rows) (at ∙ get_or_default left p i d low) ∙ e in
                subst (Agrees tables v) (same_Some row row' (sym here ∙ e')) agrees) in
                (old.exact v).1 (subst (FitsAll v) (meanings_same olds news more es old.coded) f.0, back),
          );
      coded = All-push (IsCoded news) es g (edges_up olds news es more old.coded) edge.coded;
      all = λ k j s.
          ⊎_elim
          (λ (a : among es k ≡ true). inl (among_first es (g ∷ []) k a))
          (λ (c : Contains left j).
          ⊎_elim
          (λ (e : get_or left p 0 ≡ j).
          let j_is : i ≡ j = at ∙ get_or_default left p i 0 low ∙ e in
          let row_is : s.row ≡ row = sym (s.is row) ∙ ap (λ j. get_or task.rows j row) (sym j_is) ∙ get_or_from_slice_get task.rows i row row here in
          inl (among_last es g k (edge.all k (subst (λ (r : TaskRow). Contains r.cells (Var k)) row_is s.cell))))
          (λ (c : Contains (remove left p) j). inr (subst (λ (xs : List ℕ). Contains xs j) (sym is) c))
          (contains_removed left p j low c))
          (old.all k j s);
      within = subst (All (λ i. i < length task.rows)) (sym is) (All_removed (λ i. i < length task.rows) left p low old.within);
    }

    pub none : length g.rows ≡ 0 → NoneAgrees tables task
    none empty v all =
        let a = (old.exact v).0 all in
        let fit = (edge.exact v (before v a.0)).0 (row_agrees v a.1) in
        let l = fit_low news g v fit in
        absurd (omega arith)

  pub ended : (values : List Value) (es : List (Edge ℕ)) (left : List ℕ) → length left ≡ 0 → AreSoFar tables values task es left → AreRowEdges tables values task es
  ended values es left empty so_far = record {
    exact = λ v. (λ all. ((so_far.exact v).0 all).0, λ f. (so_far.exact v).1 (f, λ k d l. absurd (omega arith)));
    coded = so_far.coded;
    all = λ k i s. ⊎_elim (λ (a : among es k ≡ true). a) (λ (c : Contains left i). absurd (let l = c.1 in omega arith)) (so_far.all k i s);
  }
