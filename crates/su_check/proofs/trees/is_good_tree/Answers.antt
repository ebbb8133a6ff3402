-- With no row sent yet the tree refutes by itself, and it is good where it does so for the kept row at its own place.
use Rattle.std.proofs.Common.{◌≡◌, ◌↔◌, true, refl, sym}
use Rattle.std.proofs.lemmas.Result.{IfOk-weaker}
use Rattle.su_check.specs.inside.Boards.{Keeps, IsReady}
use Rattle.su_check.specs.Certificate.{lines_of, IsGoodTree}
use Rattle.su_check.specs.Refutations.{Refutes}
use Rattle.su_check.proofs.TreeAt.{tree_tells}
use Rattle.su_check.proofs.ImagePlaces.{ready_none, ready_kept, ready_as}
use Rattle.su_check.proofs.trees.is_good_tree.Goals as goal

pub refutes-requires : goal.refutes-requires
refutes-requires c = record { ready = ready_as (lines_of c.args.term.now) c.args.board.now _ c.new-sent.result c.args.places.now (sym c.new-sent.ensures) c.requires.ready; guide = c.requires.guide }

pub returns-clause-tells : goal.returns-clause-tells
returns-clause-tells c =
    let x = c.args.term.now in let tree = c.get-tree.result.now in
    IfOk-weaker c.refutes.result (λ b. (b ≡ true) ↔ Refutes (lines_of x) tree.row tree.node c.new-sent.result) (λ b. (b ≡ true) ↔ IsGoodTree x c.args.k)
    (λ b tells. tree_tells x c.args.k tree c.new-sent.result c.as_slice.result.now b c.get-tree.ensures c.if-tree-as_slice.false c.as_slice.ensures c.new-sent.ensures tells)
    c.refutes.ensures.tells

pub returns-clause-ready : goal.returns-clause-ready
returns-clause-ready c =
    let t = lines_of c.args.term.now in let b = c.args.board.now in
    IfOk-weaker c.refutes.result (λ r. Keeps t b c.new-sent.result c.args.places.now c.refutes.new.places) (λ r. IsReady t b _ c.refutes.new.places)
    (λ r keeps. ready_none t b c.new-sent.result c.refutes.new.places (ready_kept t b c.new-sent.result c.new-sent.result c.args.places.now c.refutes.new.places (ready_as t b _ c.new-sent.result c.args.places.now (sym c.new-sent.ensures) c.requires.ready) keeps refl))
    c.refutes.ensures.keeps
