-- The trees so far are those of the kept rows so far, and with what is unused their nodes make up the budget; a row has one tree, so one that doesn't fit is over it for any list.
use Rattle.std.proofs.Common.{◌≡◌, ℕ, Err, ap, sym, subst, ◌∙◌, true≢false, length, arith}
use Rattle.std.specs.List.{AllZip}
use Rattle.std.proofs.lemmas.Result.{err_from_is_err_and}
use Rattle.su_map.specs.Lists.{numbers_of}
use Rattle.su_refute.specs.declared.faults.RefuteFault.TheVariants.{Nodes}
use Rattle.su_refute.specs.Trees.{IsTree}
use Rattle.su_refute.specs.AllTrees.{lines_of, nodes_in}
use Rattle.su_refute.proofs.TreeLists.{trees_pushed, trees_kept, trees_over}
use Rattle.su_refute.proofs.certifying.trees_of.Goals as goal
use Rattle.su_refute.proofs.certifying.trees_of.Goals.{then-has+in_ok-grown+in_ok-push, else-has}

pub returns-in_err-grown-clause-over : goal.returns-in_err-grown-clause-over
returns-in_err-grown-clause-over c =
    let m = c.args.minimal.now in let mask = c.mask-mask.result in let row = c.loop-row.row in
    let p = err_from_is_err_and c.from_residual-in_err-grown.result c.from_residual-in_err-grown.ensures.1 in
    rw (p.1, p.2) (λ nodes others are.
    let h : c.in_err-grown.field-0.0 ≡ Nodes = cc in
    trees_over (lines_of m) mask (length m.tableau.rows) row c.loop-row.unused c.args.budget c.loop-row.trees others
    (let e = ap length (ap (λ t. t.rows) c.tableau-t.ensures) in let l = c.loop-row-test.true in let n = c.row_count-row-end.ensures.is in omega arith)
    (c.has.ensures.0 c.if-has.true) c.loop-row.invariant.trees c.loop-row.invariant.counted (c.in_err-grown.ensures.over (ap Err h))
    (subst (λ (k : ℕ). AllZip (IsTree (lines_of m)) (numbers_of k (length m.tableau.rows)) others) (sym c.mask-mask.ensures.is) are))

pub loop-row-preserved : goal.loop-row-preserved
loop-row-preserved c =
    let m = c.args.minimal.now in let mask = c.mask-mask.result in let row = c.loop-row.row in
    elim c.if-has.branch [
      | then-has+in_ok-grown+in_ok-push w ↦
          let more = trees_pushed (lines_of m) mask row c.loop-row.unused c.if-has.unused c.args.budget c.loop-row.trees c.if-has.trees w.in_ok-grown.grown.node (c.has.ensures.0 w.if-has.true) (w.trees-is ∙ w.in_ok-push.ensures.ok) w.in_ok-grown.ensures.tree (let e = w.unused-is in let k = w.in_ok-grown.ensures.counted in omega arith) c.loop-row.invariant.trees c.loop-row.invariant.counted in
          record { trees = more.0; counted = more.1 }
      | else-has w ↦ record {
        trees = trees_kept (lines_of m) mask row c.loop-row.trees c.if-has.trees (λ one. true≢false (sym (c.has.ensures.1 one) ∙ w.if-has.false)) w.trees-is c.loop-row.invariant.trees;
        counted = let e = w.unused-is in let s = ap nodes_in w.trees-is in let i = c.loop-row.invariant.counted in omega arith;
      }
    ]
