-- The outputs of the task of a join are exactly the rows that take part in it: a valuation is a row over all attributes.
use Rattle.std.proofs.Common.{◌≡◌, ℕ, List, length, map, get_or, Contains, All, Option, Some, refl, sym, ap, subst, ◌∙◌, pos, arith}
use Rattle.std.specs.List.{range_with_len}
use Rattle.std.specs.Ordering.{nat_cmp}
use Rattle.std.specs.FinSet.{FinSet}
use Rattle.std.proofs.lemmas.List.Elements.{All-contains, All-nil}
use Rattle.std.proofs.lemmas.List.FromFn.{length-map-range_with_len, fill_by_all}
use Rattle.su_base.specs.declared.values.Value.{Value}
use Rattle.su_base.specs.declared.values.Value.TheVariants.{Int}
use Rattle.su_base.proofs.Items.{Contains-map, Contains-map_source, Contains-one, All-members, map-map_equal}
use Rattle.su_rel.specs.ExactRows.{AreExactlyRows}
use Rattle.su_tableau.specs.declared.symbols.Sym.TheVariants.{Var}
use Rattle.su_tableau.specs.Valuations.{value_of, values_of, values_at}
use Rattle.su_index.specs.Tables.{table_at}
use Rattle.su_schema.specs.SchemaValue.{ObjectEntry}
use Rattle.su_schema.specs.Entries.{attributes_of}
use Rattle.su_schema.specs.Cuts.{width, attributes_at, cut}
use Rattle.su_schema.specs.SetMembers.{numbers_in}
use Rattle.su_state.specs.DatabaseValue.{DatabaseValue, rows_of}
use Rattle.su_state.specs.Views.{taken, view_through, view_of}
use Rattle.su_exec.specs.declared.tasks.Source.{Source}
use Rattle.su_exec.specs.declared.tasks.TaskRow.{TaskRow}
use Rattle.su_exec.specs.declared.tasks.Compared.{Compared}
use Rattle.su_exec.specs.declared.tasks.Task.{Task}
use Rattle.su_exec.specs.Outputs.{Agrees, HoldsUnder, IsOutput, AreOutputs}
use Rattle.su_dangling.specs.Joins.{TakesPart}
use Rattle.su_dangling.specs.inside.Tasks.{variables_of, members_of, IsRowFor, IsJoinOf}
use Rattle.su_dangling.proofs.Objects.{attributes_by, in_numbers, from_numbers, zip_first, zip_second}
use Rattle.su_dangling.proofs.Taken.{cut_map, taken_is}

variables_are : (v : ℕ → Value) (attributes : List ℕ) → values_of v (variables_of attributes) ≡ map v attributes
variables_are v attributes = map-map_equal (λ a. Var a) (value_of v) v (λ a. refl) attributes

module _ (db : DatabaseValue) (v : ℕ → Value) where
  -- the row of the valuation
  abbrev row_by : List Value
  row_by = map v (range_with_len 0 (width db.schema))

  cut_at : (o : ℕ) → cut (attributes_at db.schema o) row_by ≡ map v (members_of db.schema (attributes_at db.schema o))
  cut_at o = cut_map db.schema (attributes_at db.schema o) v

  module _ (o : ℕ) (r : TaskRow) (is : IsRowFor db.schema o r) where
    cells_are : values_of v r.cells ≡ cut (attributes_at db.schema o) row_by
    cells_are =
        ap (values_of v) is.cells ∙ variables_are v (members_of db.schema (attributes_of is.entry))
        ∙ ap (λ (s : FinSet nat_cmp). map v (members_of db.schema s)) (sym (attributes_by db.schema o is.entry is.is))
        ∙ sym (cut_at o)

    seen : (stored : List Value) → taken db.schema is.entry stored ≡ values_at is.source.columns stored
    seen stored = taken_is db.schema is.entry stored is.source.columns is.columns

    agrees_seen : Agrees db.tables v r → Contains (view_of db o) (cut (attributes_at db.schema o) row_by)
    agrees_seen a =
        let same : is.source ≡ a.source = Contains-one is.source a.source (subst (λ (xs : List Source). Contains xs a.source) is.sources a.of_row) in
        let stored : Contains (rows_of db is.entry.relation) a.stored = subst (λ (n : ℕ). Contains (table_at db.tables n).rows a.stored) (sym (ap (λ (s : Source). s.relation) same) ∙ is.relation) a.in_table in
        let values : taken db.schema is.entry a.stored ≡ cut (attributes_at db.schema o) row_by = seen a.stored ∙ ap (λ (s : Source). values_at s.columns a.stored) same ∙ a.same ∙ cells_are in
        subst (λ (x : Option ObjectEntry). Contains (view_through db x) (cut (attributes_at db.schema o) row_by)) (sym is.is)
        (subst (Contains (view_through db (Some is.entry))) values (Contains-map (taken db.schema is.entry) (rows_of db is.entry.relation) a.stored stored))

    seen_agrees : Contains (view_of db o) (cut (attributes_at db.schema o) row_by) → Agrees db.tables v r
    seen_agrees c =
        let there : Contains (view_through db (Some is.entry)) (cut (attributes_at db.schema o) row_by) = subst (λ (x : Option ObjectEntry). Contains (view_through db x) (cut (attributes_at db.schema o) row_by)) is.is c in
        let w = Contains-map_source (taken db.schema is.entry) (rows_of db is.entry.relation) (cut (attributes_at db.schema o) row_by) there in
        record {
          source = is.source;
          of_row = subst (λ (xs : List Source). Contains xs is.source) (sym is.sources) (0, omega arith, refl);
          stored = w.0;
          in_table = subst (λ (n : ℕ). Contains (table_at db.tables n).rows w.0) (sym is.relation) w.1;
          same = sym (seen w.0) ∙ w.2 ∙ sym cells_are;
        }

module _ (db : DatabaseValue) (objects : FinSet nat_cmp) (o : ℕ) (task : Task) (is : IsJoinOf db.schema objects o task) where
  abbrev count : ℕ
  count = length db.schema.objects

  outputs_are : (v : ℕ → Value) → values_of v task.outputs ≡ cut (attributes_at db.schema o) (row_by db v)
  outputs_are v = ap (values_of v) is.outputs ∙ variables_are v (members_of db.schema (attributes_at db.schema o)) ∙ sym (cut_at db v o)

  taking_from : (h : List Value) → IsOutput db.tables task h → TakesPart db objects o h
  taking_from h out =
      let v = out.valuation in
      record {
        row = row_by db v;
        joined = record {
          wide = length-map-range_with_len v 0 (width db.schema);
          each = λ k low has.
              let w = zip_first (IsRowFor db.schema) (numbers_in objects count) task.rows k is.rows (in_numbers objects count k low has) in
              agrees_seen db v k w.0 w.2 (All-contains (Agrees db.tables v) task.rows w.0 out.agrees w.1);
        };
        cut_is = sym (outputs_are v) ∙ out.gives;
      }

  taking_to : (h : List Value) → TakesPart db objects o h → IsOutput db.tables task h
  taking_to h t =
      let v : ℕ → Value = λ k. get_or t.row k (Int (pos 0)) in
      let row : t.row ≡ row_by db v = fill_by_all v t.row (width db.schema) (Int (pos 0)) t.joined.wide (λ k l. refl) in
      record {
        valuation = v;
        agrees = All-members (Agrees db.tables v) task.rows (λ r c.
            let w = zip_second (IsRowFor db.schema) (numbers_in objects count) task.rows r is.rows c in
            let own = from_numbers objects count w.0 w.1 in
            seen_agrees db v w.0 r w.2 (subst (λ (x : List Value). Contains (view_of db w.0) (cut (attributes_at db.schema w.0) x)) row (t.joined.each w.0 own.0 own.1)));
        holds = subst (λ (cs : List Compared). All (HoldsUnder v) cs) (sym is.comparisons) (All-nil (HoldsUnder v));
        gives = outputs_are v ∙ ap (cut (attributes_at db.schema o)) (sym row) ∙ t.cut_is;
      }

  pub taking_are : (rows : List (List Value)) → AreOutputs db.tables task rows → AreExactlyRows (TakesPart db objects o) rows
  taking_are rows are = record {
    exact = λ h. (λ c. taking_from h ((are.exact h).0 c), λ t. (are.exact h).1 (taking_to h t));
    ascending = are.ascending;
  }
