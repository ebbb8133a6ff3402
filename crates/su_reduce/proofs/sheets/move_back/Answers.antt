-- A copy to an earlier place writes only what lies before the end of what was copied, so the cells behind that stay and those before the place too.
use Rattle.std.proofs.Common.{◌≡◌, ◌+◌, ◌-◌, List, ℕ, subst, arith}
use Rattle.std.specs.List.{CopiedTo, SameFrom}
use Rattle.su_reduce.proofs.ForwardRows.{behind_stays, front_moved}
use Rattle.su_reduce.proofs.sheets.move_back.Goals as goal

pub returns-clause-front : goal.returns-clause-front
returns-clause-front c =
    let xs : List ℕ = c.args.cells.now in
    let ys : List ℕ = c.copy_within.new.self in
    let from = c.args.from in
    let w = c.args.width in
    let moved = c.copy_within.ensures.by_index in
    let e : from + w - from ≡ w = omega arith in
    front_moved xs ys from c.args.to w c.requires.order c.requires.within c.copy_within.ensures.len (subst (λ n. CopiedTo xs ys from c.args.to n) e moved.0) moved.1

pub returns-clause-behind : goal.returns-clause-behind
returns-clause-behind c =
    let xs : List ℕ = c.args.cells.now in
    let ys : List ℕ = c.copy_within.new.self in
    let from = c.args.from in
    let w = c.args.width in
    let moved = c.copy_within.ensures.by_index in
    let e : from + w - from ≡ w = omega arith in
    behind_stays xs ys from c.args.to w c.requires.order c.requires.within c.copy_within.ensures.len (subst (λ n. SameFrom xs ys (c.args.to + n)) e moved.2)
