-- The objects found have all of the columns, so each has a column for every attribute of the row; where the columns are the essential ones, these objects are exactly its sources.
use Rattle.std.proofs.Common.{ℕ, ◌<◌, List, map, All, ap, sym, ◌∙◌, subst}
use Rattle.std.specs.Prelude.{IsTrue}
use Rattle.std.specs.FinSet.{contains}
use Rattle.su_steps.specs.Objects.{attributes_at}
use Rattle.su_tableau.specs.Parts.{cell_at, row_of}
use Rattle.su_schema.specs.SetMembers.{numbers_in}
use Rattle.su_answer.specs.Joined.{IsSourceOf}
use Rattle.su_answer.proofs.TaskRows.{numbers_low, columns_owned}
use Rattle.su_answer.proofs.tasks.task_row_of.Goals as goal

pub cells_of-requires-clause-columns : goal.cells_of-requires-clause-columns
cells_of-requires-clause-columns c =
    let eq = c.as_slice-attributes.ensures ∙ c.in_ok-attributes.ensures ∙ ap (numbers_in c.args.columns) c.width.ensures in
    subst (λ (xs : List ℕ). All (λ a. a < c.args.t.now.width) xs) (sym eq) (numbers_low c.args.columns c.args.t.now.width)

pub sources_of-requires : goal.sources_of-requires
sources_of-requires c = λ o has.
    let eq = c.as_slice-attributes.ensures ∙ c.in_ok-attributes.ensures ∙ ap (numbers_in c.args.columns) c.width.ensures in
    subst (λ (xs : List ℕ). All (λ a. IsTrue (contains (attributes_at c.args.schema.now o) a)) xs) (sym eq)
    (columns_owned c.args.columns (attributes_at c.args.schema.now o) c.args.t.now.width ((c.sources_within-objects.ensures.objects o).0 has).1)

pub returns : goal.returns
returns c = λ m own.
    let eq = c.as_slice-attributes.ensures ∙ c.in_ok-attributes.ensures ∙ ap (numbers_in c.args.columns) c.width.ensures in
    let are = c.in_ok-sources_of.ensures in
    let source = c.sources_within-objects.ensures.sources c.args.t.now m c.args.row own in
    record {
      attributes = c.args.columns;
      essential = own;
      cells = c.in_ok-cells_of.ensures ∙ ap (map (cell_at (row_of c.args.t.now c.args.row))) eq;
      from = λ s has. let w = are.from s has in (w.0, (source w.0).0 w.2, subst (λ (xs : List ℕ). IsSourceOf c.args.schema.now xs w.0 s) eq w.3);
      all = λ o is. let w = are.all o is.object ((source o).1 is) in (w.0, w.1, subst (λ (xs : List ℕ). IsSourceOf c.args.schema.now xs o w.0) eq w.2);
    }
