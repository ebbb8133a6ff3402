-- The trees so far are those of the tableaux so far, and with what is unused their nodes make up the budget; so with the trees of the next tableau, which don't fit in what is left, they are more than the budget.
use Rattle.std.proofs.Common.{◌≡◌, List, Err, ap, subst, arith}
use Rattle.std.proofs.lemmas.List.{take_all}
use Rattle.std.proofs.lemmas.Result.{err_from_is_err_and}
use Rattle.su_tableau.specs.Tableaux.{IsValid, IsSmall}
use Rattle.su_min.specs.Kept.{Minimised}
use Rattle.su_refute.specs.declared.faults.RefuteFault.TheVariants.{Nodes}
use Rattle.su_refute.specs.AllTrees.{AreTrees}
use Rattle.su_refute.proofs.Kept.{no_more}
use Rattle.su_refute.proofs.TreeLists.{lists_pushed, lists_over}
use Rattle.su_refute.proofs.certifying.certify.Goals as goal

pub returns-in_err-planted-clause-over : goal.returns-in_err-planted-clause-over
returns-in_err-planted-clause-over c =
    let p = err_from_is_err_and c.from_residual.result c.from_residual.ensures.1 in
    rw (p.1, p.2) (λ nodes.
    let h : c.in_err-planted.field-0.0 ≡ Nodes = cc in
    lists_over c.args.minimals.now c.loop-minimal.minimal-index c.loop-minimal.unused c.args.budget c.minimal-item.result c.loop-minimal.all
    (record { valid = subst IsValid c.tableau.ensures c.keeps_its_rules-in-loop-minimal.ensures.valid; small = subst IsSmall c.tableau.ensures c.keeps_its_rules-in-loop-minimal.ensures.small; minimised = c.keeps_its_rules.ensures })
    c.loop-minimal-test.true c.minimal-item.is c.loop-minimal.invariant.trees c.loop-minimal.invariant.counted (c.in_err-planted.ensures.over (ap Err h)))

pub loop-minimal-preserved : goal.loop-minimal-preserved
loop-minimal-preserved c =
    let x = c.in_ok-planted.planted in
    let more = lists_pushed c.args.minimals.now c.loop-minimal.minimal-index c.loop-minimal.unused x.unused c.args.budget c.minimal-item.result c.loop-minimal.all c.push.new.self x.trees c.loop-minimal-test.true c.minimal-item.is c.in_ok-push.ensures.ok c.in_ok-planted.ensures.trees c.in_ok-planted.ensures.counted c.loop-minimal.invariant.trees c.loop-minimal.invariant.counted in
    record { trees = more.0; counted = more.1 }

pub returns-clause-few : goal.returns-clause-few
returns-clause-few c =
    let ms = c.args.minimals.now in
    no_more ms c.args.budget c.loop-minimal.all (subst (λ (xs : List Minimised). AreTrees xs c.loop-minimal.all) (take_all c.loop-minimal.minimal-index ms (let l = c.loop-minimal-test.false in omega arith)) c.loop-minimal.invariant.trees) (let e = c.loop-minimal.invariant.counted in omega arith)
