-- A kept row has one tree, so where that doesn't fit in the budget it is a larger tree, and where it does no other one is larger.
use Rattle.std.proofs.Common.{◌≡◌, Err, ap, subst, arith}
use Rattle.std.proofs.lemmas.Result.{err_from_is_err_and}
use Rattle.su_tableau.specs.Tableaux.{IsValid, IsSmall}
use Rattle.su_refute.specs.declared.faults.RefuteFault.TheVariants.{Nodes}
use Rattle.su_refute.proofs.Kept.{kept_tree, no_larger}
use Rattle.su_refute.proofs.refuting.refute.Goals as goal

pub returns-in_err-grown-clause-over : goal.returns-in_err-grown-clause-over
returns-in_err-grown-clause-over c =
    let m = c.args.minimal.now in let r = c.args.left_out in
    let p = err_from_is_err_and c.from_residual-in_err-grown.result c.from_residual-in_err-grown.ensures.1 in
    rw (p.1, p.2) (λ nodes.
    let h : c.in_err-grown.field-0.0 ≡ Nodes = cc in
    let x = kept_tree m r (subst IsValid c.tableau.ensures c.keeps_its_rules-2.ensures.valid) (subst IsSmall c.tableau.ensures c.keeps_its_rules-2.ensures.small) c.keeps_its_rules.ensures.kept c.requires.kept in
    record { tree = x.0; is_tree = x.1; more = c.in_err-grown.ensures.over (ap Err h) x.0 x.1 })

pub returns-clause-few : goal.returns-clause-few
returns-clause-few c = no_larger c.args.minimal.now c.args.left_out c.args.budget c.in_ok-grown.grown.node c.in_ok-grown.ensures.tree (let e = c.in_ok-grown.ensures.counted in omega arith)
