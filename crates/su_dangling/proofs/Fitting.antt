-- The task of a join fits the tables of the database.
use Rattle.std.proofs.Common.{◌≡◌, ℕ, ◌<◌, List, map, length, Contains, Option, Some, sym, ap, ◌∙◌, subst, arith}
use Rattle.std.specs.Prelude.{IsTrue}
use Rattle.std.specs.Ordering.{nat_cmp}
use Rattle.std.specs.FinSet.{FinSet, contains}
use Rattle.std.proofs.lemmas.List.{length-map, get_or_default}
use Rattle.std.proofs.lemmas.Option.{slice_get_within}
use Rattle.su_base.proofs.Items.{Contains-map, Contains-map_source, Contains-nil, Contains-one, AllZip-length, All-members}
use Rattle.su_tableau.specs.declared.symbols.Sym.{Sym}
use Rattle.su_tableau.specs.declared.symbols.Sym.TheVariants.{Var}
use Rattle.su_index.specs.Tables.{table_at}
use Rattle.su_schema.specs.Entries.{attributes_of, column_of}
use Rattle.su_schema.specs.Cuts.{attributes_at}
use Rattle.su_schema.specs.SetMembers.{numbers_in}
use Rattle.su_state.specs.DatabaseValue.{DatabaseValue, IsWellKept}
use Rattle.su_state.proofs.Columns.{column_within}
use Rattle.su_exec.specs.declared.tasks.Source.{Source}
use Rattle.su_exec.specs.declared.tasks.TaskRow.{TaskRow}
use Rattle.su_exec.specs.declared.tasks.Compared.{Compared}
use Rattle.su_exec.specs.declared.tasks.Task.{Task}
use Rattle.su_exec.specs.Tasks.{FitsTables, HasSources, IsTask}
use Rattle.su_dangling.specs.inside.Tasks.{variables_of, members_of, IsRowFor, IsJoinOf}
use Rattle.su_dangling.proofs.Objects.{object_is, attributes_by, in_numbers, few_numbers, zip_first, zip_second}

module _ (db : DatabaseValue) (kept : IsWellKept db) where
  source_fits : (o : ℕ) (r : TaskRow) (is : IsRowFor db.schema o r) → FitsTables db.tables (length r.cells) is.source
  source_fits o r is =
      let attributes : List ℕ = members_of db.schema (attributes_of is.entry) in
      let own = object_is db.schema o is.entry kept.valid is.is in
      let there : is.entry.relation < length db.schema.relations = slice_get_within db.schema.relations is.entry.relation own.relation own.stored in
      let tables = kept.tables in
      let same = is.relation in
      let l : length (map (column_of is.entry) attributes) ≡ length (map Some is.source.columns) = ap (λ (xs : List (Option ℕ)). length xs) is.columns in
      let a = length-map attributes (column_of is.entry) in
      let b = length-map is.source.columns (λ (k : ℕ). Some k) in
      let n : length r.cells ≡ length attributes = ap (λ (xs : List Sym). length xs) is.cells ∙ length-map attributes (λ (k : ℕ). Var k) in
      record {
        relation = omega (arith, there, tables, same);
        columns = omega (arith, l, a, b, n);
        within = All-members (λ column. column < (table_at db.tables is.source.relation).width) is.source.columns (λ k c.
            let w = Contains-map_source (column_of is.entry) attributes (Some k) (subst (λ (xs : List (Option ℕ)). Contains xs (Some k)) (sym is.columns) (Contains-map (λ (j : ℕ). Some j) is.source.columns k c)) in
            let within = column_within db.schema o is.entry w.0 k kept.valid is.is w.2 in
            let width = kept.widths is.entry.relation (omega (arith, there, tables)) in
            subst (λ n. k < (table_at db.tables n).width) (sym same) (omega (arith, within, width)));
      }

  row_fits : (o : ℕ) (r : TaskRow) → IsRowFor db.schema o r → HasSources db.tables r
  row_fits o r is = All-members (FitsTables db.tables (length r.cells)) r.sources (λ s c.
      let same : is.source ≡ s = Contains-one is.source s (subst (λ (xs : List Source). Contains xs s) is.sources c) in
      subst (FitsTables db.tables (length r.cells)) same (source_fits o r is))

  pub join_fits : (objects : FinSet nat_cmp) (o : ℕ) (task : Task) → o < length db.schema.objects → IsTrue (contains objects o) → IsJoinOf db.schema objects o task → IsTask db.tables task
  join_fits objects o task low has is =
      let count = length db.schema.objects in
      let own = zip_first (IsRowFor db.schema) (numbers_in objects count) task.rows o is.rows (in_numbers objects count o low has) in
      let attributes : List ℕ = members_of db.schema (attributes_at db.schema o) in
      let none : (c : Compared) → Contains task.comparisons c → ⊥ = λ c there. Contains-nil c (subst (λ (cs : List Compared). Contains cs c) is.comparisons there) in
      record {
        few =
            let a = AllZip-length (IsRowFor db.schema) (numbers_in objects count) task.rows is.rows in
            let b = few_numbers objects count in
            let s = kept.valid.few_objects in
            omega (arith, a, b, s);
        sources = All-members (HasSources db.tables) task.rows (λ r c.
            let w = zip_second (IsRowFor db.schema) (numbers_in objects count) task.rows r is.rows c in
            row_fits w.0 r w.2);
        occur = record {
          outputs = λ k c.
              let cells : task.outputs ≡ own.0.cells = is.outputs ∙ ap (λ (s : FinSet nat_cmp). variables_of (members_of db.schema s)) (attributes_by db.schema o own.2.entry own.2.is) ∙ sym own.2.cells in
              (own.1.0, record { row = own.0; below = own.1.1; is = λ d. get_or_default task.rows own.1.0 d own.0 own.1.1 ∙ own.1.2; cell = subst (λ (xs : List Sym). Contains xs (Var k)) cells c });
          left = λ c k there e. absurd (none c there);
          right = λ c k there e. absurd (none c there);
        };
      }
