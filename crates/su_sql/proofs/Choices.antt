-- The choices that meet the conditions of a task's select are the task's valuations.
use Rattle.std.proofs.Common.{◌≡◌, ◌↔◌, ⊎_elim, ℕ, ◌<◌, true, false, cond, List, [], ◌∷◌, map, length, get_or, Contains, All, Some, refl, sym, ap, ◌∙◌, subst, pos, arith}
use Rattle.std.specs.Prelude.{◌==◌, find, IsTrue, slice_index_or}
use Rattle.std.specs.List.{AllZip, range_with_len}
use Rattle.std.proofs.lemmas.Bool.{true≢false, false≢true, eqb-true, eq-eqb, and_parts}
use Rattle.std.proofs.lemmas.List.{get_or-map, get_or_default, length-map, ext_get_or}
use Rattle.std.proofs.lemmas.List.Elements.{All-contains, Contains-get_or}
use Rattle.su_base.specs.declared.values.Value.{Value}
use Rattle.su_base.specs.declared.values.Value.TheVariants.{Int}
use Rattle.su_rel.specs.Stored.{Stored}
use Rattle.su_where.specs.Operator.{compares}
use Rattle.su_tableau.specs.declared.symbols.Sym.{Sym}
use Rattle.su_tableau.specs.declared.symbols.Sym.TheVariants.{Const, Var}
use Rattle.su_tableau.specs.Valuations.{value_of, values_of}
use Rattle.su_exec.specs.declared.tasks.TaskRow.{TaskRow}
use Rattle.su_exec.specs.declared.tasks.Compared.{Compared}
use Rattle.su_exec.specs.declared.tasks.Task.{Task}
use Rattle.su_exec.specs.Tasks.{no_row, Occurs, FitsTables, HasSources, IsTask}
use Rattle.su_exec.specs.Outputs.{Agrees, HoldsUnder, IsOutput}
use Rattle.su_base.proofs.Items.{Contains-later, Contains-cases, Contains-nil, Contains-map, Contains-map_source, Contains-flat_map, Contains-flat_map_source, All-members, AllZip-get_or, Contains-range, Contains-range_below}
use Rattle.su_sql.specs.declared.tables.CellPlace.{CellPlace}
use Rattle.su_sql.specs.declared.tables.Join.{Join}
use Rattle.su_sql.specs.declared.tables.Fixed.{Fixed}
use Rattle.su_sql.specs.declared.tables.Table.{Table}
use Rattle.su_sql.specs.declared.cells.Cell.{Cell}
use Rattle.su_sql.specs.Choices.{IsRowOf, value_at, operand_value, Joins, Fixes, Compares}
use Rattle.su_sql.specs.Selects.{IsSelected}
use Rattle.su_sql.specs.TaskJoins.{operand_of, comparison_of, joins_for, joins_at, joins_of, fixed_for, fixed_at, fixed_of}
use Rattle.su_sql.specs.TermSelects.{table_of, select_of, IsJoined}
use Rattle.su_sql.specs.Cells.{place, cell_at, cells_in, cells_of, is_variable, is_same, found_place, first_place}

-- ---- symbols and places

variable_is : (k : ℕ) (x : Sym) → is_variable k x ≡ true → x ≡ Var k
variable_is k (Var j) t = ap Var (eqb-true j k t)
variable_is k (Const v) f = absurd (false≢true f)

variable_there : (k : ℕ) → is_variable k (Var k) ≡ true
variable_there k = eq-eqb k k refl

same_is : (p q : CellPlace) → is_same p q ≡ true → p ≡ q
same_is p q h =
    let b = and_parts (p.table == q.table) (p.cell == q.cell) h in
    let t = eqb-true p.table q.table b.0 in
    let c = eqb-true p.cell q.cell b.1 in
    ap (λ n. place n p.cell) t ∙ ap (place q.table) c

abbrev cell : CellPlace → Sym → Cell
cell p x = record { place = p; symbol = x }

-- a variable that stands somewhere stands at its first place
first_found : (cells : List Cell) (k : ℕ) (c : Cell) → Contains cells c → c.symbol ≡ Var k → (d : Cell) × Contains cells d × (d.symbol ≡ Var k) × (first_place cells k ≡ d.place)
first_found [] k c m e = absurd (Contains-nil c m)
first_found (x ∷ xs) k c m e =
    elim (is_variable k x.symbol) as (λ b. is_variable k x.symbol ≡ b → (d : Cell) × Contains (x ∷ xs) d × (d.symbol ≡ Var k) × (found_place (cond b (Some x) (find (λ y. is_variable k y.symbol) xs)) ≡ d.place)) [
      | true ↦ λ t. (x, (0, omega arith, refl), variable_is k x.symbol t, refl)
      | false ↦ λ f. ⊎_elim
          (λ (h : x ≡ c). absurd (true≢false (sym (variable_there k) ∙ sym (ap (is_variable k) (ap (λ (y : Cell). y.symbol) h ∙ e)) ∙ f)))
          (λ (r : Contains xs c). let w = first_found xs k c r e in (w.0, Contains-later x xs w.0 w.1, w.2, w.3))
          (Contains-cases x xs c m)
    ] refl

-- ---- conditions on a choice

-- each cell has its value
abbrev pub HaveValues : List Cell → List (List Value) → (ℕ → Value) → Type 0
HaveValues cells choice v = (c : Cell) → Contains cells c → value_at choice c.place ≡ value_of v c.symbol

module _ (cells : List Cell) (choice : List (List Value)) where
  -- each variable has the value at its first place
  abbrev pub found : ℕ → Value
  found k = value_at choice (first_place cells k)

  there : All (Joins choice) (joins_of cells) → All (Fixes choice) (fixed_of cells) → (p : CellPlace) (x : Sym) → Contains cells (cell p x) → value_at choice p ≡ value_of found x
  there joined fixed p (Const a) m = All-contains (Fixes choice) (fixed_of cells) (record { place = p; value = a }) fixed (Contains-flat_map fixed_at cells (cell p (Const a)) (record { place = p; value = a }) m (0, omega arith, refl))
  there joined fixed p (Var k) m =
      let first = first_place cells k in
      let join : Join = record { left = first; right = p } in
      elim (is_same first p) as (λ b. is_same first p ≡ b → value_at choice p ≡ value_at choice first) [
        | true ↦ λ t. sym (ap (value_at choice) (same_is first p t))
        | false ↦ λ f. sym (All-contains (Joins choice) (joins_of cells) join joined
            (Contains-flat_map (joins_at cells) cells (cell p (Var k)) join m (subst (λ b. Contains (cond b [] (join ∷ [])) join) (sym f) (0, omega arith, refl))))
      ] refl

  pub have_values : All (Joins choice) (joins_of cells) → All (Fixes choice) (fixed_of cells) → HaveValues cells choice found
  have_values joined fixed c m = there joined fixed c.place c.symbol m

  module _ (v : ℕ → Value) (have : HaveValues cells choice v) where
    at_first : (k : ℕ) (c : Cell) → Contains cells c → c.symbol ≡ Var k → value_at choice (first_place cells k) ≡ v k
    at_first k c m e = let w = first_found cells k c m e in ap (value_at choice) w.3 ∙ have w.0 w.1 ∙ ap (value_of v) w.2

    join_holds : (p : CellPlace) (x : Sym) → Contains cells (cell p x) → (j : Join) → Contains (joins_for cells p x) j → Joins choice j
    join_holds p (Const a) m j n = absurd (Contains-nil j n)
    join_holds p (Var k) m j n =
        let first = first_place cells k in
        let join : Join = record { left = first; right = p } in
        elim (is_same first p) as (λ b. Contains (cond b [] (join ∷ [])) j → Joins choice j) [
          | true ↦ λ c. absurd (Contains-nil j c)
          | false ↦ λ c. ⊎_elim
              (λ (h : join ≡ j). subst (Joins choice) h (at_first k (cell p (Var k)) m refl ∙ sym (have (cell p (Var k)) m)))
              (λ (r : Contains [] j). absurd (Contains-nil j r))
              (Contains-cases join [] j c)
        ] n

    fixed_holds : (p : CellPlace) (x : Sym) → Contains cells (cell p x) → (f : Fixed) → Contains (fixed_for p x) f → Fixes choice f
    fixed_holds p (Var k) m f n = absurd (Contains-nil f n)
    fixed_holds p (Const a) m f n =
        let fixed : Fixed = record { place = p; value = a } in
        ⊎_elim
        (λ (h : fixed ≡ f). subst (Fixes choice) h (have (cell p (Const a)) m))
        (λ (r : Contains [] f). absurd (Contains-nil f r))
        (Contains-cases fixed [] f n)

    pub all_joined : All (Joins choice) (joins_of cells)
    all_joined = All-members (Joins choice) (joins_of cells) (λ j n. let w = Contains-flat_map_source (joins_at cells) cells j n in join_holds w.0.place w.0.symbol w.1 j w.2)

    pub all_fixed : All (Fixes choice) (fixed_of cells)
    all_fixed = All-members (Fixes choice) (fixed_of cells) (λ f n. let w = Contains-flat_map_source fixed_at cells f n in fixed_holds w.0.place w.0.symbol w.1 f w.2)

    -- a symbol whose variable stands in a cell
    abbrev pub Stands : Sym → Type 0
    Stands x = (k : ℕ) → x ≡ Var k → (c : Cell) × Contains cells c × (c.symbol ≡ Var k)

    pub operand_is : (x : Sym) → Stands x → operand_value choice (operand_of cells x) ≡ value_of v x
    operand_is (Const a) s = refl
    operand_is (Var k) s = let w = s k refl in at_first k w.0 w.1 w.2

    pub operands_are : (xs : List Sym) → ((x : Sym) → Contains xs x → Stands x) → map (operand_value choice) (map (operand_of cells) xs) ≡ values_of v xs
    operands_are [] s = refl
    operands_are (x ∷ xs) s =
        ap (λ y. y ∷ map (operand_value choice) (map (operand_of cells) xs)) (operand_is x (s x (0, omega arith, refl)))
        ∙ ap (λ ys. value_of v x ∷ ys) (operands_are xs (λ y m. s y (Contains-later x xs y m)))

    compared_is : (c : Compared) → Stands c.left → Stands c.right → compares c.op (operand_value choice (operand_of cells c.left)) (operand_value choice (operand_of cells c.right)) ≡ compares c.op (value_of v c.left) (value_of v c.right)
    compared_is c l r = ap (λ x. compares c.op x (operand_value choice (operand_of cells c.right))) (operand_is c.left l) ∙ ap (compares c.op (value_of v c.left)) (operand_is c.right r)

    module _ (cs : List Compared) (stand : (c : Compared) → Contains cs c → Stands c.left × Stands c.right) where
      pub all_hold : All (Compares choice) (map (comparison_of cells) cs) → All (HoldsUnder v) cs
      all_hold h = All-members (HoldsUnder v) cs (λ c m.
          let s = stand c m in
          subst IsTrue (compared_is c s.0 s.1) (All-contains (Compares choice) (map (comparison_of cells) cs) (comparison_of cells c) h (Contains-map (comparison_of cells) cs c m)))

      pub all_compare : All (HoldsUnder v) cs → All (Compares choice) (map (comparison_of cells) cs)
      all_compare h = All-members (Compares choice) (map (comparison_of cells) cs) (λ d n.
          let w = Contains-map_source (comparison_of cells) cs d n in
          let s = stand w.0 w.1 in
          subst (Compares choice) w.2 (subst IsTrue (sym (compared_is w.0 s.0 s.1)) (All-contains (HoldsUnder v) cs w.0 h w.1)))

-- ---- the cells of rows

cell_there : (rows : List TaskRow) (t i : ℕ) → t < length rows → i < length (get_or rows t no_row).cells → Contains (cells_of rows) (cell_at t (get_or rows t no_row) i)
cell_there rows t i low in_row =
    Contains-flat_map (λ n. cells_in n (get_or rows n no_row)) (range_with_len 0 (length rows)) t (cell_at t (get_or rows t no_row) i) (Contains-range (length rows) t low)
    (Contains-map (cell_at t (get_or rows t no_row)) (range_with_len 0 (length (get_or rows t no_row).cells)) i (Contains-range (length (get_or rows t no_row).cells) i in_row))

-- a fact of each cell of the rows
of_cells : (rows : List TaskRow) (P : Cell → Type 0) → ((t i : ℕ) → t < length rows → i < length (get_or rows t no_row).cells → P (cell_at t (get_or rows t no_row) i)) → (c : Cell) → Contains (cells_of rows) c → P c
of_cells rows P h c m =
    let w = Contains-flat_map_source (λ n. cells_in n (get_or rows n no_row)) (range_with_len 0 (length rows)) c m in
    let row = get_or rows w.0 no_row in
    let k = Contains-map_source (cell_at w.0 row) (range_with_len 0 (length row.cells)) c w.2 in
    subst P k.2 (h w.0 k.0 (Contains-range_below (length rows) w.0 w.1) (Contains-range_below (length row.cells) k.0 k.1))

-- a variable that occurs stands in a cell
occurs_there : (task : Task) (k : ℕ) → Occurs task k → (c : Cell) × Contains (cells_of task.rows) c × (c.symbol ≡ Var k)
occurs_there task k o =
    let s = o.1 in
    let row : get_or task.rows o.0 no_row ≡ s.row = s.is no_row in
    let in_row : Contains (get_or task.rows o.0 no_row).cells (Var k) = subst (λ (r : TaskRow). Contains r.cells (Var k)) (sym row) s.cell in
    let n = in_row.0 in
    (cell_at o.0 (get_or task.rows o.0 no_row) n, cell_there task.rows o.0 n s.below in_row.1, get_or_default (get_or task.rows o.0 no_row).cells n (Var 0) (Var k) in_row.1 ∙ in_row.2)

-- ---- choices and valuations

module _ (stored : List Stored) (task : Task) (is : IsJoined task) where
  abbrev rows : List TaskRow
  rows = task.rows

  abbrev cells : List Cell
  cells = cells_of task.rows

  -- the rows of a choice have the values of the cells
  row_values : (choice : List (List Value)) (v : ℕ → Value) → AllZip (IsRowOf stored) (map table_of rows) choice → HaveValues cells choice v → (t : ℕ) → t < length rows
      → IsRowOf stored (table_of (get_or rows t no_row)) (values_of v (get_or rows t no_row).cells)
  row_values choice v chosen have t low =
      let row = get_or rows t no_row in
      let n = length-map rows table_of in
      let w : IsRowOf stored (table_of row) (get_or choice t []) =
      subst (λ (x : Table). IsRowOf stored x (get_or choice t [])) (get_or-map table_of rows t no_row (table_of no_row) low) (AllZip-get_or (IsRowOf stored) (map table_of rows) choice t (table_of no_row) [] chosen (omega (arith, n, low))) in
      let wide : length (get_or choice t []) ≡ length row.cells =
      ap (λ (xs : List Value). length xs) (sym w.same) ∙ length-map w.source.columns (λ column. slice_index_or w.stored column (Int (pos 0))) ∙ is.widths row w.source (Contains-get_or rows t no_row low) w.of_row in
      let l = length-map row.cells (value_of v) in
      let same : get_or choice t [] ≡ values_of v row.cells = ext_get_or (Int (pos 0)) (get_or choice t []) (values_of v row.cells) (wide ∙ sym l) (λ i k.
      let in_row : i < length row.cells = omega (arith, wide, k) in
      have (cell_at t row i) (cell_there rows t i low in_row) ∙ sym (get_or-map (value_of v) row.cells i (Var 0) (Int (pos 0)) in_row)) in
      subst (IsRowOf stored (table_of row)) same w

  -- such rows agree with stored ones
  agree_all : (v : ℕ → Value) → ((t : ℕ) → t < length rows → IsRowOf stored (table_of (get_or rows t no_row)) (values_of v (get_or rows t no_row).cells)) → All (Agrees stored v) rows
  agree_all v h = All-members (Agrees stored v) rows (λ r c.
      let e : get_or rows c.0 no_row ≡ r = get_or_default rows c.0 no_row r c.1 ∙ c.2 in
      subst (Agrees stored v) e (h c.0 c.1))

  -- the choice of a valuation
  abbrev chosen_by : (ℕ → Value) → List (List Value)
  chosen_by v = map (λ (r : TaskRow). values_of v r.cells) rows

  zip_maps : (v : ℕ → Value) (rs : List TaskRow) → ((r : TaskRow) → Contains rs r → Agrees stored v r) → AllZip (IsRowOf stored) (map table_of rs) (map (λ (r : TaskRow). values_of v r.cells) rs)
  zip_maps v [] h = tt
  zip_maps v (r ∷ rs) h = (h r (0, omega arith, refl), zip_maps v rs (λ x m. h x (Contains-later r rs x m)))

  have_chosen : (v : ℕ → Value) → HaveValues cells (chosen_by v) v
  have_chosen v = of_cells rows (λ c. value_at (chosen_by v) c.place ≡ value_of v c.symbol) (λ t i low in_row.
      let row = get_or rows t no_row in
      ap (λ (xs : List Value). get_or xs i (Int (pos 0))) (get_or-map (λ (r : TaskRow). values_of v r.cells) rows t no_row [] low) ∙ get_or-map (value_of v) row.cells i (Var 0) (Int (pos 0)) in_row)

  output_stands : (choice : List (List Value)) (v : ℕ → Value) (have : HaveValues cells choice v) (x : Sym) → Contains task.outputs x → Stands cells choice v have x
  output_stands choice v have x m k e = occurs_there task k (is.occur.outputs k (subst (Contains task.outputs) e m))

  compared_stand : (choice : List (List Value)) (v : ℕ → Value) (have : HaveValues cells choice v) (c : Compared) → Contains task.comparisons c → Stands cells choice v have c.left × Stands cells choice v have c.right
  compared_stand choice v have c m = (λ k e. occurs_there task k (is.occur.left c k m e), λ k e. occurs_there task k (is.occur.right c k m e))

  pub selected_is_output : (h : List Value) → IsSelected stored (select_of task) h ↔ IsOutput stored task h
  selected_is_output h = (
    λ s.
        let v = found cells s.choice in
        let have = have_values cells s.choice s.joined s.fixed in
        record {
          valuation = v;
          agrees = agree_all v (row_values s.choice v s.chosen have);
          holds = all_hold cells s.choice v have task.comparisons (compared_stand s.choice v have) s.compared;
          gives = sym (operands_are cells s.choice v have task.outputs (output_stands s.choice v have)) ∙ s.gives;
        },
    λ o.
        let v = o.valuation in
        let choice = chosen_by v in
        let have = have_chosen v in
        record {
          choice = choice;
          chosen = zip_maps v rows (λ r m. All-contains (Agrees stored v) rows r o.agrees m);
          joined = all_joined cells choice v have;
          fixed = all_fixed cells choice v have;
          compared = all_compare cells choice v have task.comparisons (compared_stand choice v have) o.holds;
          gives = operands_are cells choice v have task.outputs (output_stands choice v have) ∙ o.gives;
        },
  )

-- a task over some tables is such a task
pub task_joined : (tables : List Stored) (task : Task) → IsTask tables task → IsJoined task
task_joined tables task fits = record {
  widths = λ row source r s. (All-contains (FitsTables tables (length row.cells)) row.sources source (All-contains (HasSources tables) task.rows row fits.sources r) s).columns;
  occur = fits.occur;
}
