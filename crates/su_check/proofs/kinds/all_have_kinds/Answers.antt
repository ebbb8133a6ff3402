-- The cells of the rows so far have the kinds found, and a typing of all rows agrees with what was found; so a cell that can't have its kind refutes every typing.
use Rattle.std.proofs.Common.{◌<◌, [], length, map, get_or, sym, ap, subst, ◌∙◌, below_more}
use Rattle.std.proofs.lemmas.List.{get_or_default}
use Rattle.su_tableau.specs.Kinds.{sym_kind}
use Rattle.su_check.specs.inside.Cells.{cell_at, kind_at, HasFound}
use Rattle.su_check.proofs.WellTyped.{found_kept}
use Rattle.su_check.proofs.kinds.all_have_kinds.Goals as goal

pub returns-then-not-have_kinds-clause-no : goal.returns-then-not-have_kinds-clause-no
returns-then-not-have_kinds-clause-no c = λ none f are typed.
    let is = c.as_slice.ensures ∙ c.row-item.is ∙ get_or_default c.args.rows.now c.loop-row.row-index c.row-item.result [] c.loop-row-test.true in
    c.have_kinds.ensures.no c.if-not-have_kinds.true f (c.loop-row.invariant.only f are typed) (ap (map (sym_kind f)) is ∙ typed c.loop-row.row-index [] c.loop-row-test.true)

pub loop-row-preserved : goal.loop-row-preserved
loop-row-preserved c =
    let i = c.loop-row.row-index in let rows = c.args.rows.now in let kinds = c.args.kinds.now in let vs = c.args.variables.now in
    let is = c.as_slice.ensures ∙ c.row-item.is ∙ get_or_default rows i c.row-item.result [] c.loop-row-test.true in
    record {
      done = λ a k.
          below_more (λ a. k < length (get_or rows a []) → HasFound vs c.have_kinds.new.found (cell_at (get_or rows a []) k) (kind_at kinds k)) i
          (λ a h l. found_kept vs c.loop-row.found c.have_kinds.new.found (cell_at (get_or rows a []) k) (kind_at kinds k) c.have_kinds.ensures.keeps (c.loop-row.invariant.done a k h l))
          (λ l. subst (λ r. HasFound vs c.have_kinds.new.found (cell_at r k) (kind_at kinds k)) is (c.have_kinds.ensures.yes c.if-not-have_kinds.false k (subst (λ r. k < length r) (sym is) l))) a;
      only = λ f are typed. c.have_kinds.ensures.only f (c.loop-row.invariant.only f are typed) (ap (map (sym_kind f)) is ∙ typed i [] c.loop-row-test.true);
      len = c.have_kinds.ensures.len ∙ c.loop-row.invariant.len;
    }
