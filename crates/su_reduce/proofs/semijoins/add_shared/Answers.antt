-- The places so far are those of the variables that stand on both sides; a cell adds a pair where its variable has a place on the right, and else nothing.
use Rattle.std.proofs.Common.{sym, ◌∙◌, arith}
use Rattle.su_base.proofs.Items.{get_or-is}
use Rattle.su_tableau.specs.declared.symbols.Sym.TheVariants.{Var}
use Rattle.su_reduce.proofs.Places.{shared_none, shared_more}
use Rattle.su_reduce.proofs.semijoins.add_shared.Goals as goal

pub returns-in_ok-push-2 : goal.returns-in_ok-push-2
returns-in_ok-push-2 c =
    let left = c.args.left.now in
    let right = c.args.right.now in
    let p = c.args.p in
    let is = sym (get_or-is left p c.index-left-p.result (Var 0) c.requires.below c.index-left-p.is) in
    rw (c.in_ok-push.ensures.ok, c.in_ok-push-2.ensures.ok) (shared_more left right p c.in-Var.k c.place-q.result c.args.places.now.left c.args.places.now.right c.requires.so_far c.requires.below (sym is ∙ c.in-Var.is) c.place-q.ensures c.if-q-right.true)

pub returns-else-q-right : goal.returns-else-q-right
returns-else-q-right c =
    let left = c.args.left.now in
    let right = c.args.right.now in
    let p = c.args.p in
    let is = sym (get_or-is left p c.index-left-p.result (Var 0) c.requires.below c.index-left-p.is) in
    let high = c.if-q-right.false in
    let place = c.place-q.ensures in
    shared_none left right p c.in-Var.k c.args.places.now.left c.args.places.now.right c.requires.so_far (sym is ∙ c.in-Var.is) (omega (arith, high, place))
