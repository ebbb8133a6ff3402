-- Form, fold and trees are tested in this order, so the first that fails is the term's fault, and a term that passes all three is good.
use Rattle.std.proofs.Common.{refl, ◌∙◌}
use Rattle.std.proofs.lemmas.Option.{MatchOption-at_some}
use Rattle.su_check.specs.Verdict.{IsTreeFault}
use Rattle.su_check.specs.inside.Trees.{HasGoodTrees}
use Rattle.su_check.proofs.WellTyped.{ready_start}
use Rattle.su_check.proofs.checking.term_fault.Goals as goal

pub is_good_fold-requires-clause-ready : goal.is_good_fold-requires-clause-ready
is_good_fold-requires-clause-ready c =
    let good = MatchOption-at_some _ _ c.in-Some.board c.in-Some.is c.in_ok-board.ensures in
    ready_start c.args.kinds.now c.args.place c.args.term.now c.in-Some.board _ good.0 good.1 (c.as_mut_slice.ensures.len ∙ c.in_ok-places.ensures.len ∙ c.len.ensures)

pub returns-in-Some-2 : goal.returns-in-Some-2
returns-in-Some-2 c =
    let x = c.args.term.now in
    let good = MatchOption-at_some _ _ c.in-Some.board c.in-Some.is c.in_ok-board.ensures in
    let tree = MatchOption-at_some (HasGoodTrees x) (IsTreeFault x) c.in-Some-2.row c.in-Some-2.is c.in_ok-row.ensures in
    (refl, good.0, c.in_ok-is_good_fold.ensures.tells.0 c.if-not-branch.false, tree)
