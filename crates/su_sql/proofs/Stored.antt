-- Over any stored rows the outputs of a kept term's join are the term's answers.
use Rattle.std.proofs.Common.{◌≡◌, ◌↔◌, ℕ, ◌<◌, List, map, length, Contains, Option, Some, sym, ap, ◌∙◌, subst, arith}
use Rattle.std.specs.Int.{bit_at}
use Rattle.std.proofs.lemmas.List.{length-map}
use Rattle.std.proofs.lemmas.List.Elements.{All-contains}
use Rattle.su_base.specs.declared.values.Kind.{Kind}
use Rattle.su_base.specs.declared.values.Column.{Column}
use Rattle.su_base.specs.declared.values.Value.{Value}
use Rattle.su_base.specs.Value.{kind_of}
use Rattle.su_base.proofs.Items.{Contains-map, Contains-map_source}
use Rattle.su_tableau.specs.declared.symbols.Sym.TheVariants.{Var}
use Rattle.su_tableau.specs.Tableaux.{Tab, IsValid}
use Rattle.su_tableau.specs.Valuations.{value_of, values_of, Cut}
use Rattle.su_schema.specs.Entries.{column_of}
use Rattle.su_schema.specs.Valid as schemas
use Rattle.su_state.specs.DatabaseValue.{DatabaseValue, HasColumnKinds, rows_of, columns_of}
use Rattle.su_state.proofs.Columns.{column_within}
use Rattle.su_exec.specs.declared.tasks.TaskRow.{TaskRow}
use Rattle.su_exec.specs.declared.tasks.Task.{Task}
use Rattle.su_exec.specs.Outputs.{Agrees, IsOutput}
use Rattle.su_answer.specs.Answers.{IsRead, StoredAnswer}
use Rattle.su_tableau.specs.Parts.{cell_at, row_of}
use Rattle.su_schema.specs.SetMembers.{numbers_in}
use Rattle.su_answer.specs.Joined.{IsTaskRowOf, IsTaskOf}
use Rattle.su_answer.proofs.ColumnValues.{reads_each}
use Rattle.su_answer.proofs.Joined.{answers_by_rows}
use Rattle.su_answer.proofs.RowAgreement.{essential_has, read_row}
use Rattle.su_sql.specs.Stored.{AreStored}

-- a stored row is as wide as its relation
stored_wide : (db : DatabaseValue) (relation : ℕ) (row : List Value) → AreStored db → Contains (rows_of db relation) row → length row ≡ length (columns_of db relation)
stored_wide db relation row stored c =
    let typed : map kind_of row ≡ map (λ (o : Column). o.kind) (columns_of db relation) = All-contains (HasColumnKinds (columns_of db relation)) (rows_of db relation) row (stored relation) c in
    sym (length-map row kind_of) ∙ ap (λ (ks : List Kind). length ks) typed ∙ length-map (columns_of db relation) (λ (o : Column). o.kind)

module _ (db : DatabaseValue) (t : Tab) (m : ℕ) (task : Task) (schema_valid : schemas.IsValid db.schema) (stored : AreStored db) (valid : IsValid t) (is : IsTaskOf db.schema t m task) where
  module _ (i : ℕ) (r : TaskRow) (v : ℕ → Value) (row_in : i < length t.rows) (in_set : bit_at m i ≡ 1) (of' : IsTaskRowOf db.schema t m i r) where
    row_read : Agrees db.tables v r → IsRead db t m v i
    row_read a =
        let s = of'.from a.source a.of_row in
        let object = s.2.object in
        let in_table : Contains (rows_of db object.relation) a.stored = subst (λ n. Contains (rows_of db n) a.stored) s.2.relation a.in_table in
        let wide = stored_wide db object.relation a.stored stored in_table in
        let reads = reads_each object a.stored v (cell_at (row_of t i)) (numbers_in of'.attributes t.width) a.source.columns s.2.columns
        (λ k c.
        let w = Contains-map_source (column_of object) (numbers_in of'.attributes t.width) (Some k) (subst (λ (xs : List (Option ℕ)). Contains xs (Some k)) (sym s.2.columns) (Contains-map (λ (j : ℕ). Some j) a.source.columns k c)) in
        let within = column_within db.schema s.0 object w.0 k schema_valid s.2.is w.2 in
        omega (arith, wide, within))
        (a.same ∙ ap (values_of v) of'.cells) in
        record {
          source = s.0;
          is_source = s.1;
          object = object;
          is = s.2.is;
          row = a.stored;
          stored = in_table;
          agrees = λ c x h e. reads c (essential_has db t m i r v valid row_in in_set of' c x h e) ∙ ap (λ y. Some (value_of v y)) (h.cell.is (Var 0));
        }

  pub outputs_are_answers : (h : List Value) → IsOutput db.tables task h ↔ Cut t (StoredAnswer db t m) h
  outputs_are_answers = answers_by_rows db t m task valid is (λ i r v low set of' h. read_row db t m i r v valid low set of' h) (λ i r v low set of' there h. row_read i r v low set of' h)
