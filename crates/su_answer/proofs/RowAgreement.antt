-- A task's row agrees with a stored row exactly where the tableau's row is read.
use Rattle.std.proofs.Common.{◌≡◌, ℕ, ◌<◌, List, [], map, length, get_or, Contains, Some, sym, ap, ◌∙◌, subst, arith}
use Rattle.std.specs.Int.{bit_at}
use Rattle.std.specs.List.{range_with_len}
use Rattle.std.specs.FinSet.{contains}
use Rattle.std.proofs.lemmas.List.{get_or_default, length-map}
use Rattle.std.proofs.lemmas.List.Elements.{All-contains}
use Rattle.std.proofs.lemmas.Option.{same_Some}
use Rattle.su_base.specs.declared.values.Value.{Value}
use Rattle.su_base.specs.declared.values.Kind.{Kind}
use Rattle.su_base.specs.declared.values.Column.{Column}
use Rattle.su_base.specs.Value.{kind_of}
use Rattle.su_base.proofs.Items.{Contains-filter, Contains-filter_source, Contains-range, Contains-range_below}
use Rattle.su_tableau.specs.declared.symbols.Sym.{Sym}
use Rattle.su_tableau.specs.declared.symbols.Sym.TheVariants.{Var}
use Rattle.su_tableau.specs.Tableaux.{Tab, IsValid}
use Rattle.su_tableau.specs.Valuations.{value_of, values_of}
use Rattle.su_tableau.specs.Essential.{HasSymbol, IsEssential}
use Rattle.su_index.specs.Tables.{table_at}
use Rattle.su_state.specs.DatabaseValue.{DatabaseValue, IsWellKept, HasColumnKinds, rows_of, columns_of}
use Rattle.su_state.specs.Enforced.{read}
use Rattle.su_exec.specs.declared.tasks.TaskRow.{TaskRow}
use Rattle.su_exec.specs.Tasks.{FitsTables, HasSources}
use Rattle.su_exec.specs.Outputs.{Agrees}
use Rattle.su_answer.specs.Answers.{IsRead}
use Rattle.su_tableau.specs.Parts.{cell_at, row_of}
use Rattle.su_schema.specs.SetMembers.{numbers_in}
use Rattle.su_answer.specs.Joined.{IsTaskRowOf}
use Rattle.su_answer.proofs.ColumnValues.{reads_each, each_read}

-- a stored row is as wide as its table
pub stored_wide : (db : DatabaseValue) (relation : ℕ) (stored : List Value) → IsWellKept db → relation < length db.tables → Contains (table_at db.tables relation).rows stored → length stored ≡ (table_at db.tables relation).width
stored_wide db relation stored kept low c =
    let typed : map kind_of stored ≡ map (λ (o : Column). o.kind) (columns_of db relation) = All-contains (HasColumnKinds (columns_of db relation)) (rows_of db relation) stored (kept.typed relation low) c in
    sym (length-map stored kind_of) ∙ ap (λ (ks : List Kind). length ks) typed ∙ length-map (columns_of db relation) (λ (o : Column). o.kind) ∙ sym (kept.widths relation low)

module _ (db : DatabaseValue) (t : Tab) (m i : ℕ) (r : TaskRow) (v : ℕ → Value) (valid : IsValid t) (row_in : i < length t.rows) (in_set : bit_at m i ≡ 1) (is : IsTaskRowOf db.schema t m i r) where
  row_wide : length (get_or t.rows i []) ≡ t.width
  row_wide = valid.widths i [] row_in

  pub essential_has : (c : ℕ) (x : Sym) → HasSymbol t m i c x → IsEssential t m i c → Contains (numbers_in is.attributes t.width) c
  essential_has c x h e =
      let l : c < length (get_or t.rows i []) = h.cell.below in
      let w = row_wide in
      Contains-filter (contains is.attributes) (range_with_len 0 t.width) c (Contains-range t.width c (omega arith)) ((is.essential c).1 e)

  holds_cell : (c : ℕ) → c < t.width → HasSymbol t m i c (cell_at (row_of t i) c)
  holds_cell c low =
      let w = row_wide in
      let l : c < length (get_or t.rows i []) = omega arith in
      record { row_in = row_in; in_set = in_set; cell = record { below = l; is = λ d. get_or_default (get_or t.rows i []) c d (Var 0) l } }

  pub row_read : IsWellKept db → HasSources db.tables r → Agrees db.tables v r → IsRead db t m v i
  row_read kept has a =
      let s = is.from a.source a.of_row in
      let fits = All-contains (FitsTables db.tables (length r.cells)) r.sources a.source has a.of_row in
      let wide = stored_wide db a.source.relation a.stored kept fits.relation a.in_table in
      let reads = reads_each s.2.object a.stored v (cell_at (row_of t i)) (numbers_in is.attributes t.width) a.source.columns s.2.columns
      (λ k c. let l = All-contains (λ column. column < (table_at db.tables a.source.relation).width) a.source.columns k fits.within c in omega (arith, wide, l))
      (a.same ∙ ap (values_of v) is.cells) in
      record {
        source = s.0;
        is_source = s.1;
        object = s.2.object;
        is = s.2.is;
        row = a.stored;
        stored = subst (λ n. Contains (rows_of db n) a.stored) s.2.relation a.in_table;
        agrees = λ c x h e. reads c (essential_has c x h e) ∙ ap (λ y. Some (value_of v y)) (h.cell.is (Var 0));
      }

  pub read_row : IsRead db t m v i → Agrees db.tables v r
  read_row k =
      let s = is.all k.source k.is_source in
      let one : k.object ≡ s.2.object = same_Some k.object s.2.object (sym k.is ∙ s.2.is) in
      let reads : (c : ℕ) → Contains (numbers_in is.attributes t.width) c → read s.2.object c k.row ≡ Some (value_of v (cell_at (row_of t i) c)) = λ c n.
      let f = Contains-filter_source (contains is.attributes) (range_with_len 0 t.width) c n in
      ap (λ o. read o c k.row) (sym one) ∙ k.agrees c (cell_at (row_of t i) c) (holds_cell c (Contains-range_below t.width c f.0)) ((is.essential c).0 f.1) in
      record {
        source = s.0;
        of_row = s.1;
        stored = k.row;
        in_table = subst (λ n. Contains (rows_of db n) k.row) (ap (λ o. o.relation) one ∙ sym s.2.relation) k.stored;
        same = each_read s.2.object k.row v (cell_at (row_of t i)) (numbers_in is.attributes t.width) s.0.columns s.2.columns reads ∙ ap (values_of v) (sym is.cells);
      }
