-- A kept row can't be left out, and the net tells which targets the kept rows have without it; so the tree that grows from these is the row's own.
use Rattle.std.proofs.Common.{ℕ, sym, subst}
use Rattle.std.proofs.lemmas.Result.{IfOk-weaker}
use Rattle.su_tableau.specs.Tableaux.{IsSmall}
use Rattle.su_refute.specs.Trees.{IsTree, lines_in}
use Rattle.su_refute.specs.inside.Positions.{Stands, IsTreeFor}
use Rattle.su_refute.proofs.Needed.{row_small, stands_first, tree_first, over_first, begins_as}
use Rattle.su_refute.proofs.refuting.tree_of.Goals as goal

pub others-requires : goal.others-requires
others-requires c = (row_small c.args.minimal.now.tableau c.args.minimal.now.mask c.args.left_out (subst IsSmall c.tableau.ensures c.keeps_its_rules-2.ensures.small) c.keeps_its_rules.ensures.kept c.requires.kept).1

pub grow-requires : goal.grow-requires
grow-requires c =
    let t = c.args.minimal.now.tableau in let m = c.args.minimal.now.mask in let net = c.args.net.now in
    let g = begins_as t m c.args.left_out net c.in_ok-left.left c.tableau.result.now c.as_slice.result.now c.tableau.ensures c.as_slice.ensures c.keeps_its_rules-2.ensures.valid c.keeps_its_rules-2.ensures.small c.keeps_its_rules.ensures.kept c.requires.kept c.requires.net c.in_ok-left.ensures.one_each c.in_ok-left.ensures.same c.in_ok-left.ensures.out in
    record { stands = subst (λ (k : ℕ). Stands net k c.as_slice-2.result.now) (sym c.mask.ensures.is) (subst (Stands net m) (sym c.as_slice-2.ensures) (stands_first t m c.args.left_out net c.in_ok-left.left g)) }

pub returns-clause-tree : goal.returns-clause-tree
returns-clause-tree c =
    let t = c.args.minimal.now.tableau in let m = c.args.minimal.now.mask in let net = c.args.net.now in
    let g = begins_as t m c.args.left_out net c.in_ok-left.left c.tableau.result.now c.as_slice.result.now c.tableau.ensures c.as_slice.ensures c.keeps_its_rules-2.ensures.valid c.keeps_its_rules-2.ensures.small c.keeps_its_rules.ensures.kept c.requires.kept c.requires.net c.in_ok-left.ensures.one_each c.in_ok-left.ensures.same c.in_ok-left.ensures.out in
    IfOk-weaker c.grow.result (λ x. (s : Stands net c.mask.result c.as_slice-2.result.now) → IsTreeFor net c.mask.result c.as_slice-2.result.now s x.node) (λ x. IsTree (lines_in t m) c.args.left_out x.node)
    (λ x tree. tree_first t m c.args.left_out net c.in_ok-left.left c.mask.result c.as_slice-2.result.now x.node g c.mask.ensures.is c.as_slice-2.ensures tree) c.grow.ensures.tree

pub returns-clause-over : goal.returns-clause-over
returns-clause-over c = λ nodes.
    let t = c.args.minimal.now.tableau in let m = c.args.minimal.now.mask in let net = c.args.net.now in
    let g = begins_as t m c.args.left_out net c.in_ok-left.left c.tableau.result.now c.as_slice.result.now c.tableau.ensures c.as_slice.ensures c.keeps_its_rules-2.ensures.valid c.keeps_its_rules-2.ensures.small c.keeps_its_rules.ensures.kept c.requires.kept c.requires.net c.in_ok-left.ensures.one_each c.in_ok-left.ensures.same c.in_ok-left.ensures.out in
    over_first t m c.args.left_out net c.in_ok-left.left c.mask.result c.as_slice-2.result.now c.args.budget g c.mask.ensures.is c.as_slice-2.ensures (c.grow.ensures.over nodes)
