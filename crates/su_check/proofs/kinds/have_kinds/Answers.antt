-- The cells so far have the kinds found, which only come to be more; a typing of the row agrees with each of them, so a cell of another kind refutes it.
use Rattle.std.proofs.Common.{ap, subst, ◌∙◌, below_more}
use Rattle.su_tableau.specs.Kinds.{sym_kind}
use Rattle.su_check.specs.inside.Cells.{cell_at, kind_at, HasFound}
use Rattle.su_check.proofs.WellTyped.{kind_of_cell, found_kept}
use Rattle.su_check.proofs.kinds.have_kinds.Goals as goal

pub returns-then-not-has_kind-clause-no : goal.returns-then-not-has_kind-clause-no
returns-then-not-has_kind-clause-no c = λ none f are typed.
    let here = ap (sym_kind f) c.at.ensures ∙ kind_of_cell c.args.kinds.now f c.args.row.now c.loop-c.c typed c.loop-c-test.true in
    c.has_kind.ensures.no c.if-not-has_kind.true f (c.loop-c.invariant.only f are typed) here

pub returns-then-not-has_kind-clause-only : goal.returns-then-not-has_kind-clause-only
returns-then-not-has_kind-clause-only c = λ f are typed.
    let here = ap (sym_kind f) c.at.ensures ∙ kind_of_cell c.args.kinds.now f c.args.row.now c.loop-c.c typed c.loop-c-test.true in
    c.has_kind.ensures.only f (c.loop-c.invariant.only f are typed) here

pub loop-c-preserved : goal.loop-c-preserved
loop-c-preserved c = record {
  done =
      below_more (λ a. HasFound c.args.variables.now c.has_kind.new.found (cell_at c.args.row.now a) (kind_at c.args.kinds.now a)) c.loop-c.c
      (λ a h. found_kept c.args.variables.now c.loop-c.found c.has_kind.new.found (cell_at c.args.row.now a) (kind_at c.args.kinds.now a) c.has_kind.ensures.keeps (c.loop-c.invariant.done a h))
      (subst (λ x. HasFound c.args.variables.now c.has_kind.new.found x (kind_at c.args.kinds.now c.loop-c.c)) c.at.ensures (c.has_kind.ensures.yes c.if-not-has_kind.false));
  only = λ f are typed.
      let here = ap (sym_kind f) c.at.ensures ∙ kind_of_cell c.args.kinds.now f c.args.row.now c.loop-c.c typed c.loop-c-test.true in
      c.has_kind.ensures.only f (c.loop-c.invariant.only f are typed) here;
  keeps = λ n k e. c.has_kind.ensures.keeps n k (c.loop-c.invariant.keeps n k e);
  len = c.has_kind.ensures.len ∙ c.loop-c.invariant.len;
}
