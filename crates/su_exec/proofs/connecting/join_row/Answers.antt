-- After each cell so far that has a variable the row has the label of the first row with it; a later join keeps what has one label together.
use Rattle.std.proofs.Common.{◌≡◌, ◌<◌, ◌≤◌, List, Some, length, get_or, slice_get, Contains, sym, ap, subst, ◌∙◌, ⊎_elim, arith}
use Rattle.std.proofs.lemmas.Bool.{cases_lt}
use Rattle.std.proofs.lemmas.Option.{same_Some, slice_get-get_or}
use Rattle.su_base.proofs.Items.{get_or-is}
use Rattle.su_tableau.specs.declared.symbols.Sym.{Sym}
use Rattle.su_tableau.specs.declared.symbols.Sym.TheVariants.{Var}
use Rattle.su_exec.proofs.Labels.{cell_at, first_linked, keeps_then, stands_at}
use Rattle.su_exec.proofs.connecting.join_row.Goals as goal

pub join_first-requires-clause-linked : goal.join_first-requires-clause-linked
join_first-requires-clause-linked c = λ k first e is.
    let cells = c.get-row.result.now.cells in
    let p = c.loop-cell.cell-index in
    let cell : Sym = c.cell-item.result in
    let same_cells = c.as_slice-cell-items.ensures in
    let within : p < length cells = subst (λ (xs : List Sym). p < length xs) same_cells c.loop-cell-test.true in
    let read : cell ≡ get_or cells p cell = c.cell-item.is ∙ ap (λ (xs : List Sym). get_or xs p cell) same_cells in
    let here : Contains cells (Var k) = (p, within, get_or-is cells p cell (Var k) within read ∙ e) in
    first_linked c.args.task.now k first c.args.i is (stands_at c.args.task.now k c.args.i c.get-row.result.now c.get-row.ensures here)

pub loop-cell-preserved : goal.loop-cell-preserved
loop-cell-preserved c =
    let cells : List Sym = c.as_slice-cell-items.result.now in
    let p = c.loop-cell.cell-index in
    let i = c.args.i in
    let cell : Sym = c.cell-item.result in
    let within : p < length cells = c.loop-cell-test.true in
    let read : cell ≡ get_or cells p cell = c.cell-item.is in
    let a = c.requires.labels.count in
    let b = c.loop-cell.invariant.labels.count in
    let low = c.requires.row in
    record {
      labels = c.join_first.ensures.labels;
      kept = keeps_then c.args.labels.now c.loop-cell.labels c.join_first.new.labels (omega arith) c.loop-cell.invariant.kept c.join_first.ensures.kept;
      joined = λ j k first l e is.
          let stands = is.stands.below in
          ⊎_elim
          (λ (m : j < p). c.join_first.ensures.kept i first (omega arith) (omega arith) (c.loop-cell.invariant.joined j k first m e is))
          (λ (m : p ≤ j).
          let same : p ≡ j = omega arith in
          c.join_first.ensures.joined k first (same_Some cell (Var k) (ap Some read ∙ sym (slice_get-get_or cells p cell within) ∙ ap (slice_get cells) same ∙ e)) is)
          (cases_lt j p);
    }

pub returns-clause-joined : goal.returns-clause-joined
returns-clause-joined c = λ k first s is.
    let cells = c.get-row.result.now.cells in
    let at = cell_at c.args.task.now k c.args.i c.get-row.result.now c.get-row.ensures s in
    let al = at.1 in
    let end : length cells ≤ c.loop-cell.cell-index = subst (λ (xs : List Sym). length xs ≤ c.loop-cell.cell-index) c.as_slice-cell-items.ensures (let test = c.loop-cell-test.false in omega arith) in
    c.loop-cell.invariant.joined at.0 k first (omega arith) (ap (λ (xs : List Sym). slice_get xs at.0) c.as_slice-cell-items.ensures ∙ slice_get-get_or cells at.0 (Var k) at.1 ∙ ap Some at.2) is
