-- The task of a kept part is a task over the tables of the database.
use Rattle.std.proofs.Common.{◌≡◌, ℕ, zero, suc, ◌+◌, ◌*◌, ◌<◌, ◌≤◌, List, [], map, length, get_or, Contains, Option, Some, sym, ap, ◌∙◌, subst, pos, arith}
use Rattle.std.specs.List.{range_with_len}
use Rattle.std.proofs.lemmas.List.{length-map, get_or_default}
use Rattle.std.proofs.lemmas.List.Elements.{Contains-get_or}
use Rattle.std.proofs.lemmas.Option.{slice_get_within}
use Rattle.su_base.specs.declared.values.Value.TheVariants.{Int}
use Rattle.su_base.proofs.Items.{Contains-map, Contains-map_source, AllZip-length, Contains-take, Contains-range_below, All-members}
use Rattle.su_tableau.specs.declared.symbols.Sym.{Sym}
use Rattle.su_tableau.specs.declared.symbols.Sym.TheVariants.{Var}
use Rattle.su_tableau.specs.Tableaux.{Tab, IsValid, IsSmall}
use Rattle.su_tableau.specs.Parts.{part, keep_if, cell_at, row_of}
use Rattle.su_tableau.specs.Essential.{HasSymbol, in_head}
use Rattle.su_tableau.proofs.Sets.{select, select-from}
use Rattle.su_index.specs.Tables.{table_at}
use Rattle.su_schema.specs.Entries.{column_of}
use Rattle.su_state.specs.DatabaseValue.{DatabaseValue, IsWellKept}
use Rattle.su_map.specs.Lists.{row_numbers}
use Rattle.su_exec.specs.declared.tasks.Source.{Source}
use Rattle.su_exec.specs.declared.tasks.TaskRow.{TaskRow}
use Rattle.su_exec.specs.declared.tasks.Compared.{Compared}
use Rattle.su_exec.specs.declared.tasks.Task.{Task}
use Rattle.su_exec.specs.Tasks.{Occurs, FitsTables, HasSources, IsTask}
use Rattle.su_schema.specs.SetMembers.{numbers_in}
use Rattle.su_answer.specs.Joined.{IsSourceOf, IsTaskRowOf, comparison_at, IsTaskOf}
use Rattle.su_state.proofs.Columns.{column_within}
use Rattle.su_answer.proofs.Columns.{object_is}
use Rattle.su_answer.proofs.PairedLists.{zip_first, zip_second}
use Rattle.su_answer.proofs.RowAgreement.{essential_has}
use Rattle.su_map.proofs.SearchStart.{numbers_few}
use Rattle.su_map.proofs.RowLists.{in_rows}

keep_few : (b n : ℕ) → b < 2 → length (keep_if b n []) ≤ 1
keep_few zero n l = omega arith
keep_few (suc b) n l = omega arith

module _ (db : DatabaseValue) (t : Tab) (m : ℕ) (task : Task) (kept : IsWellKept db) (small : IsSmall t) (valid : IsValid t) (part_valid : IsValid (part t m)) (is : IsTaskOf db.schema t m task) where
  source_fits : (cells : ℕ) (attributes : List ℕ) (o : ℕ) (s : Source) → cells ≡ length attributes → IsSourceOf db.schema attributes o s → FitsTables db.tables cells s
  source_fits cells attributes o s count of' =
      let object = of'.object in
      let own = object_is db.schema o object kept.valid of'.is in
      let there : object.relation < length db.schema.relations = slice_get_within db.schema.relations object.relation own.relation own.stored in
      let tables = kept.tables in
      let same = of'.relation in
      let low : s.relation < length db.tables = omega (arith, there, tables, same) in
      let l : length (map (column_of object) attributes) ≡ length (map Some s.columns) = ap (λ (xs : List (Option ℕ)). length xs) of'.columns in
      let a = length-map attributes (column_of object) in
      let b = length-map s.columns (λ (k : ℕ). Some k) in
      record {
        relation = low;
        columns = omega (arith, l, a, b, count);
        within = All-members (λ column. column < (table_at db.tables s.relation).width) s.columns (λ k c.
            let w = Contains-map_source (column_of object) attributes (Some k) (subst (λ (xs : List (Option ℕ)). Contains xs (Some k)) (sym of'.columns) (Contains-map (λ (j : ℕ). Some j) s.columns k c)) in
            let within = column_within db.schema o object w.0 k kept.valid of'.is w.2 in
            let width = kept.widths object.relation (omega (arith, there, tables)) in
            subst (λ n. k < (table_at db.tables n).width) (sym same) (omega (arith, within, width)));
      }

  row_fits : (r : TaskRow) → Contains task.rows r → HasSources db.tables r
  row_fits r c =
      let w = zip_second (IsTaskRowOf db.schema t m) (row_numbers t m) task.rows r is.rows c in
      let of' = w.2 in
      let n : length r.cells ≡ length (numbers_in of'.attributes t.width) = ap (λ (xs : List Sym). length xs) of'.cells ∙ length-map (numbers_in of'.attributes t.width) (cell_at (row_of t w.0)) in
      All-members (FitsTables db.tables (length r.cells)) r.sources (λ s d.
      let f = of'.from s d in
      source_fits (length r.cells) (numbers_in of'.attributes t.width) f.0 s n f.2)

  head_has : (k : ℕ) → Contains t.head (Var k) → Occurs task k
  head_has k c =
      let o = part_valid.head_occurs k c in
      let row = get_or (select m t.rows) o.0 [] in
      let s = select-from m t.rows row (Contains-get_or (select m t.rows) o.0 [] o.1) in
      let j = s.place in
      let in_row : Contains (get_or t.rows j []) (Var k) = subst (λ (xs : List Sym). Contains xs (Var k)) (sym (s.is [])) o.2 in
      let holds : HasSymbol t m j in_row.0 (Var k) = record { row_in = s.below; in_set = s.is_in; cell = record { below = in_row.1; is = λ d. get_or_default (get_or t.rows j []) in_row.0 d (Var k) in_row.1 ∙ in_row.2 } } in
      let w = zip_first (IsTaskRowOf db.schema t m) (row_numbers t m) task.rows j is.rows (in_rows t m j s.below s.is_in) in
      let r = w.0 in
      let e = essential_has db t m j r (λ n. Int (pos 0)) valid s.below s.is_in w.2 in_row.0 (Var k) holds (in_head k holds c) in
      let has : Contains r.cells (Var k) = subst (λ (xs : List Sym). Contains xs (Var k)) (sym w.2.cells) (subst (λ (x : Sym). Contains (map (cell_at (row_of t j)) (numbers_in w.2.attributes t.width)) x) (holds.cell.is (Var 0)) (Contains-map (cell_at (row_of t j)) (numbers_in w.2.attributes t.width) in_row.0 e)) in
      (w.1.0, record { row = r; below = w.1.1; is = λ d. get_or_default task.rows w.1.0 d r w.1.1 ∙ w.1.2; cell = has })

  side_has : (i n k : ℕ) → n < length t.head → get_or t.head n (Var 0) ≡ Var k → Occurs task k
  side_has i n k l e = head_has k (n, l, get_or_default t.head n (Var k) (Var 0) l ∙ e)

  pub task_fits : IsTask db.tables task
  task_fits = record {
    few =
        let a = AllZip-length (IsTaskRowOf db.schema t m) (row_numbers t m) task.rows is.rows in
        let b = numbers_few m (length t.rows) in
        let s = small.rows in
        omega (arith, a, b, s);
    sources = All-members (HasSources db.tables) task.rows row_fits;
    occur = record {
      outputs = λ k c. head_has k (Contains-take t.outputs t.head (Var k) (subst (λ (xs : List Sym). Contains xs (Var k)) is.outputs c));
      left = λ c k has e.
          let w = Contains-map_source (comparison_at t) (range_with_len 0 (length t.operators)) c (subst (λ (xs : List Compared). Contains xs c) is.comparisons has) in
          let low = Contains-range_below (length t.operators) w.0 w.1 in
          let n = valid.head_length in
          side_has w.0 (t.outputs + 2 * w.0) k (omega (arith, low, n)) (ap (λ (d : Compared). d.left) w.2 ∙ e);
      right = λ c k has e.
          let w = Contains-map_source (comparison_at t) (range_with_len 0 (length t.operators)) c (subst (λ (xs : List Compared). Contains xs c) is.comparisons has) in
          let low = Contains-range_below (length t.operators) w.0 w.1 in
          let n = valid.head_length in
          side_has w.0 (t.outputs + 2 * w.0 + 1) k (omega (arith, low, n)) (ap (λ (d : Compared). d.right) w.2 ∙ e);
    };
  }
